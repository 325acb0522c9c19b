-- How an item is shown.
use Rattle.std.specs.Prelude.{ℕ, List, ◌++◌, codes, decimal}
use Rattle.items.specs.declared.Item.{Item}
use Rattle.items.specs.declared.Work.{Work}
use Rattle.items.specs.declared.Work.TheVariants.{Task, Frame}

-- the work
abbrev pub work_words : Work → List ℕ
work_words (Task least greatest) = codes "task " ++ (decimal least ++ (codes " " ++ decimal greatest))
work_words (Frame bytes) = codes "frame " ++ decimal bytes

-- number, resource, priority, work, predecessor, period, delay
abbrev pub item_words : Item → List ℕ
item_words i = decimal i.number ++ (codes " " ++ (decimal i.resource ++ (codes " " ++ (decimal i.priority ++ (codes " " ++ (work_words i.work ++ (codes " " ++ (decimal i.predecessor ++ (codes " " ++ (decimal i.period ++ (codes " " ++ decimal i.delay)))))))))))
