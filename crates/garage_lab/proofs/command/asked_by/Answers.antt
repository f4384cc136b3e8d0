use Rattle.std.proofs.Common.{arith}
use Rattle.garage_lab.proofs.Words.{one_word, two_words, three_words}
use Rattle.garage_lab.proofs.command.asked_by.Goals as goal

pub returns-in-len1 : goal.returns-in-len1
returns-in-len1 c =
    one_word c.args.words.now c.name-item.result c.of_one.result (omega (arith, c.in-len1.len_at_least, c.in-len1.len_below)) c.name-item.is
    (rw c.as_str.ensures.value at c.of_one.ensures)

pub returns-in-len3 : goal.returns-in-len3
returns-in-len3 c =
    three_words c.args.words.now c.name-item-then-words-lt4.result c.first-item.result c.second-item.result c.of_three.result
    (omega (arith, c.in-len3.len_at_least, c.in-len3.len_below)) c.name-item-then-words-lt4.is c.first-item.is c.second-item.is
    (rw (c.as_str-in-len3.ensures.value, c.as_str-in-len3-2.ensures.value, c.as_str-in-len3-3.ensures.value) at c.of_three.ensures)
