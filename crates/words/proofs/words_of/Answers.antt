use Rattle.std.proofs.Common.{vec_items, vec_len}
use Rattle.words.proofs.Spoken.{words_collected}
use Rattle.words.proofs.words_of.Goals as goal

pub returns : goal.returns
returns c = words_collected vec_items vec_len _ _ _ c.split_whitespace.ensures.rest c.collect.ensures.runs
