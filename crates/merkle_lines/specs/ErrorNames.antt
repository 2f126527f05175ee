-- The names of errors.
use Rattle.std.specs.Prelude.{ℕ, List, codes}
use Rattle.merkle_base.specs.declared.error.DecodeError.{DecodeError}
use Rattle.merkle_base.specs.declared.error.DecodeError.TheVariants as decode
use Rattle.merkle_base.specs.declared.error.Error.{Error}
use Rattle.merkle_base.specs.declared.error.Error.TheVariants as error
use Rattle.merkle_commands.specs.declared.hex_words.HexError.{HexError}
use Rattle.merkle_commands.specs.declared.hex_words.HexError.TheVariants as hex

-- the name of a variant of `Error`
abbrev pub error_name : {F : Type 0} → Error F → List ℕ
error_name (error.NonLeaf p) = codes "NonLeaf"
error_name (error.PositionOverflow p) = codes "PositionOverflow"
error_name (error.LocationOverflow n) = codes "LocationOverflow"
error_name error.Empty = codes "Empty"
error_name (error.RangeOutOfBounds n) = codes "RangeOutOfBounds"
error_name (error.InvalidSize n) = codes "InvalidSize"
error_name (error.LeafOutOfBounds n) = codes "LeafOutOfBounds"
error_name (error.DuplicateLocation n) = codes "DuplicateLocation"
error_name (error.UnsortedLocation n) = codes "UnsortedLocation"
error_name (error.ElementPruned p) = codes "ElementPruned"
error_name (error.CompressedDigest p) = codes "CompressedDigest"
error_name error.InvalidPinnedNodes = codes "InvalidPinnedNodes"
error_name (error.StaleBatch expected actual) = codes "StaleBatch"
error_name (error.AncestorDropped expected actual) = codes "AncestorDropped"
error_name error.InvalidProof = codes "InvalidProof"
error_name (error.InvalidInactivePeaks requested peaks) = codes "InvalidInactivePeaks"
error_name error.RootMismatch = codes "RootMismatch"
error_name (error.MissingNode p) = codes "MissingNode"
error_name (error.DataCorrupted what) = codes "DataCorrupted"
error_name (error.BitOutOfBounds bit size) = codes "BitOutOfBounds"
error_name error.OutOfMemory = codes "OutOfMemory"

-- the name of a variant of `HexError`
abbrev pub hex_error_name : HexError → List ℕ
hex_error_name hex.Syntax = codes "Syntax"
hex_error_name hex.OutOfMemory = codes "OutOfMemory"

-- the name of a variant of `DecodeError`
abbrev pub decode_error_name : DecodeError → List ℕ
decode_error_name decode.EndOfBuffer = codes "EndOfBuffer"
decode_error_name decode.InvalidVarint = codes "InvalidVarint"
decode_error_name decode.Invalid = codes "Invalid"
decode_error_name decode.TooMany = codes "TooMany"
decode_error_name decode.OutOfMemory = codes "OutOfMemory"
