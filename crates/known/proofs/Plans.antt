-- Each known plan is computed: its placements, the count of its sweeps, the sweeps, and the windows or the item that fails.
use Rattle.std.proofs.Common.{refl}
use Rattle.known.specs.Stands.{KnownPlans}
use Rattle.known.proofs.Computed.{settles_to, unbounded_at, unsettled_within}

pub plans : KnownPlans
plans = record {
  no_items = settles_to 0 refl refl refl refl refl;
  two_tasks = settles_to 0 refl refl refl refl refl;
  just_fits = settles_to 0 refl refl refl refl refl;
  just_late = unbounded_at 0 refl 0 refl refl refl refl refl;
  chained = settles_to 0 refl refl refl refl refl;
  chain_cut = unsettled_within 0 refl refl;
  two_frames = settles_to 0 refl refl refl refl refl;
  third_frame = unbounded_at 0 refl 2 refl refl refl refl refl;
  frame_fits = settles_to 0 refl refl refl refl refl;
  frame_late = unbounded_at 0 refl 0 refl refl refl refl refl;
  carton_line = settles_to 0 refl refl refl refl refl;
  carton_switched = settles_to 5 refl refl refl refl refl;
}
