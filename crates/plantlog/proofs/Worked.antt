-- The worked refusals, computed.
use Rattle.std.proofs.Common.{refl}
use Rattle.plantlog.specs.Numbers.{first_number}
use Rattle.plantlog.specs.FirstRecord.{any_number, number_within, all_weights, kind_fields, body_fields, front, first_record}
use Rattle.plantlog.specs.Laws.{WorkedRefusals}

pub worked : WorkedRefusals
unfolding first_number any_number number_within all_weights kind_fields body_fields front first_record
worked = (refl, refl, refl, refl, refl, refl, refl, refl, refl, refl, refl, refl, refl, refl, refl)
