use Rattle.std.proofs.Common.{arith, rules}
use Rattle.tabletexts.proofs.Digits.{no_digit, digit_more, too_large, digits_all}
use Rattle.tabletexts.proofs.reading.read_number.Goals as goal

pub returns-then-not-is_ascii_digit : goal.returns-then-not-is_ascii_digit
returns-then-not-is_ascii_digit c = search (rules, no_digit)

pub returns-then-value-from : goal.returns-then-value-from
returns-then-value-from c =
    record { value = too_large c.loop-b.value _ c.loop-b.b-index _ (search rules) (search rules) c.loop-b.invariant.1 (omega arith); bound = tt }

pub loop-b-preserved : goal.loop-b-preserved
loop-b-preserved c =
    let more = digit_more c.loop-b.value c.args.field.now c.loop-b.b-index (search rules) (search rules) in
    (omega arith, cc)

pub returns : goal.returns
returns c = search (rules, digits_all)
