use Rattle.merkle_core.proofs.mem.Mem.init.Goals as goal

pub returns-clause-made : goal.returns-clause-made
returns-clause-made g c = c.from_components.ensures.made

pub returns-clause-overflow : goal.returns-clause-overflow
returns-clause-overflow g c = c.from_components.ensures.overflow

pub returns-clause-too_large : goal.returns-clause-too_large
returns-clause-too_large g c = c.from_components.ensures.too_large

pub returns-clause-no_size : goal.returns-clause-no_size
returns-clause-no_size g c = c.from_components.ensures.no_size

pub returns-clause-bad_pins : goal.returns-clause-bad_pins
returns-clause-bad_pins g c = c.from_components.ensures.bad_pins

pub returns-clause-allowed : goal.returns-clause-allowed
returns-clause-allowed g c = c.from_components.ensures.allowed

pub returns-clause-counted : goal.returns-clause-counted
returns-clause-counted g c = c.from_components.ensures.counted

pub returns-clause-agrees : goal.returns-clause-agrees
returns-clause-agrees g c = c.from_components.ensures.agrees
