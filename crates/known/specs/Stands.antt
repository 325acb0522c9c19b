-- Plans whose windows are known, to be found by the definitions that a settle's contract cites.
use Rattle.std.specs.Prelude.{[], ◌∷◌}
use Rattle.known.specs.Rule.{over}
use Rattle.known.specs.Plans.{processor, bus, tasks, whole, chain, frames, three_frames, lone_frame, line, carton}
use Rattle.known.specs.Comes.{window, SettlesTo, UnboundedAt, UnsettledWithin}

-- what a settle of each comes to; the number after the items is the budget
pub record KnownPlans : Type 0 where
  pub no_items : SettlesTo (over 0) processor [] 10000 1 []
  pub two_tasks : SettlesTo (over 0) processor tasks 10000 1 (window 5 5 ∷ (window 4 9 ∷ []))
  -- a demand may fill its period, but not with a tick of delay
  pub just_fits : SettlesTo (over 0) processor (whole 0) 10000 1 (window 10 10 ∷ [])
  pub just_late : UnboundedAt (over 0) processor (whole 1) 10000 1 1 1
  -- the first sweep widens the windows of a chain, and the second alters none; a budget of one does not suffice
  pub chained : SettlesTo (over 0) processor chain 10000 2 (window 20 20 ∷ (window 40 60 ∷ (window 60 120 ∷ (window 30 150 ∷ []))))
  pub chain_cut : UnsettledWithin (over 0) processor chain 1
  -- two frames have a bound, and a third below them has none
  pub two_frames : SettlesTo (over 0) (bus 8) frames 10000 1 (window 824 2000 ∷ (window 824 3000 ∷ []))
  pub third_frame : UnboundedAt (over 0) (bus 8) three_frames 10000 3 1 1
  -- a frame may wait for one of its own, so its period must hold it twice
  pub frame_fits : SettlesTo (over 0) (bus 1) (lone_frame 110) 10000 1 (window 47 110 ∷ [])
  pub frame_late : UnboundedAt (over 0) (bus 1) (lone_frame 109) 10000 1 1 1
  -- a chain over a processor, a bus and a second processor; and the same where a switch to a task and one away from it take 5 ticks each
  pub carton_line : SettlesTo (over 0) line carton 10000 3 (window 100 150 ∷ (window 322 690 ∷ (window 372 800 ∷ (window 30 30 ∷ []))))
  pub carton_switched : SettlesTo (over 5) line carton 10000 3 (window 100 160 ∷ (window 322 700 ∷ (window 372 830 ∷ (window 30 40 ∷ []))))
