use Rattle.std.proofs.Common.{◌≡◌, ◌<◌, length, arith}
use Rattle.pickle_script.proofs.WordLemmas.{prefix_len-within, no_word, one_word}
use Rattle.debug_json.proofs.words.first_word.Goals as goal

pub split_at-requires : goal.split_at-requires
split_at-requires c = rw c.blanks_len.ensures (prefix_len-within _ _)

pub returns-then-is_empty : goal.returns-then-is_empty
returns-then-is_empty c =
    let none : length c.split_at.result.1.now ≡ 0 = grind arith in
    no_word _ _ _ c.blanks_len.ensures c.split_at.ensures.back none

pub split_at-requires-2 : goal.split_at-requires-2
split_at-requires-2 c = rw c.word_len.ensures (prefix_len-within _ _)

pub returns : goal.returns
returns c =
    let some : 0 < length c.split_at.result.1.now = grind arith in
    rw (c.split_at-2.ensures.front, c.split_at-2.ensures.back, c.word_len.ensures) (one_word _ _ _ c.blanks_len.ensures c.split_at.ensures.back some)
