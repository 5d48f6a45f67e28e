use Rattle.std.proofs.Common.{◌+◌, get_or, sym, ap, ◌∙◌, arith}
use Rattle.words.specs.declared.classes.Class.TheVariants.{Blank}
use Rattle.words.specs.Classes.{class_of}
use Rattle.words.proofs.Telling.{class_tells}
use Rattle.words.proofs.Skipping.{skipped_none, skipped_more, byte_of_rest, within_text, rest_ends, skipped_all}
use Rattle.words.proofs.pieces.skip_blanks.Goals as goal

pub loop-blanks-init : goal.loop-blanks-init
loop-blanks-init c = skipped_none c.args.text.now c.args.at

pub returns-in_default : goal.returns-in_default
returns-in_default c =
    let text = c.args.text.now in
    let l = within_text text c.args.at c.loop-blanks.blanks c.requires c.loop-blanks-test.true in
    record {
      within = omega arith;
      same = c.loop-blanks.invariant.same;
      stops = λ _ is. c.in_default.not-Blank (c.class_of.ensures ∙ ap class_of (byte_of_rest text c.args.at c.loop-blanks.blanks) ∙ is);
    }

pub loop-blanks-preserved : goal.loop-blanks-preserved
loop-blanks-preserved c =
    let text = c.args.text.now in
    let k = c.loop-blanks.blanks in
    let t = class_tells (get_or text (c.args.at + k) 0) Blank (sym c.in-Blank.is ∙ c.class_of.ensures ∙ ap class_of (byte_of_rest text c.args.at k)) in
    skipped_more text c.args.at k c.loop-blanks.invariant (within_text text c.args.at k c.requires c.loop-blanks-test.true) t.0 t.1

pub returns : goal.returns
returns c =
    let text = c.args.text.now in
    let k = c.loop-blanks.blanks in
    let most = c.loop-blanks.auto.blanks-end in
    skipped_all text c.args.at k c.loop-blanks.invariant (rest_ends text c.args.at k c.requires most (λ l. let f = c.loop-blanks-test.false in omega arith))
