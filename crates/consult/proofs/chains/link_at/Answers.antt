-- A search among the numbers, which rise, finds the predecessor.
use Rattle.std.proofs.Common.{Ok, Err, rules}
use Rattle.std.proofs.lemmas.List.Sorted.{answers_always}
use Rattle.consult.proofs.Links.{searched}
use Rattle.consult.proofs.chains.link_at.Goals as goal

pub returns-in-Ok : goal.returns-in-Ok
returns-in-Ok c = searched c.requires.valid.0 c.args.items.now c.requires.valid.1 c.args.at c.requires.within (Ok c.in-Ok.place) c.in-Ok.ensures.bound (c.in-Ok.ensures.position (λ x. x.number) (answers_always _ _ _ (λ f a r g called. search rules)))

pub returns-in-Err : goal.returns-in-Err
returns-in-Err c = searched c.requires.valid.0 c.args.items.now c.requires.valid.1 c.args.at c.requires.within (Err c.in-Err.field-0) c.in-Err.ensures.bound (c.in-Err.ensures.position (λ x. x.number) (answers_always _ _ _ (λ f a r g called. search rules)))
