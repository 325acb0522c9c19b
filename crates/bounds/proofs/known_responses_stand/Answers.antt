-- Each is computed.
use Rattle.std.proofs.Common.{refl}
use Rattle.bounds.specs.Numbers.{solution_from}
use Rattle.bounds.proofs.known_responses_stand.Goals as goal

pub returns : goal.returns
unfolding solution_from
returns c = record { task_first = refl; task_second = refl; frame_first = refl; frame_second = refl; frame_third = refl; frame_fits = refl; frame_late = refl; frame_longer = refl; frame_double = refl; not_at_end = refl; with_jitter = refl; much_jitter = refl; just_fits = refl; just_late = refl; bit_of_20 = refl; bit_of_30 = refl; longer_below = refl; no_bit = refl }
