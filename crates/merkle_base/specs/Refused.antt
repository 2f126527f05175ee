-- Errors other than that memory was refused.
use Rattle.std.specs.Prelude.{◌≢◌}
use Rattle.merkle_base.specs.declared.error.Error.{Error}
use Rattle.merkle_base.specs.declared.error.Error.TheVariants.{OutOfMemory}

-- P holds of an error, unless a request for memory was refused
abbrev pub UnlessMemory : {F : Type 0} → (Error F → Type 0) → Error F → Type 0
UnlessMemory P e = e ≢ OutOfMemory → P e
