use Rattle.std.proofs.Common.{rules}
use Rattle.merkle_codec.specs.NumberSpelling.{number_spelling}
use Rattle.merkle_tests.proofs.tests.bytes.greatest_sizes.Goals as goal

pub max_encode_size-requires : goal.max_encode_size-requires
unfolding number_spelling
max_encode_size-requires g c = search rules

pub max_encode_size-requires-2 : goal.max_encode_size-requires-2
unfolding number_spelling
max_encode_size-requires-2 g c = search rules
