use Rattle.std.proofs.Common.{◌+◌, get_or, refl, sym, ap, ◌∙◌, subst, Err, arith}
use Rattle.words.specs.declared.classes.Class.TheVariants.{Word, Blank, Semicolon, Other}
use Rattle.words.specs.declared.faults.Fault.{Fault}
use Rattle.words.specs.Classes.{class_of}
use Rattle.words.specs.Reading.{WordFrom}
use Rattle.words.proofs.Telling.{class_tells}
use Rattle.words.proofs.Skipping.{byte_of_rest, within_text, rest_ends}
use Rattle.words.proofs.Wording.{spelled_none, spelled_more, spelled_long, spelled_bad, spelled_blank, spelled_semicolon, spelled_end, not_first}
use Rattle.words.proofs.pieces.word_end.Goals as goal

pub loop-length-init : goal.loop-length-init
loop-length-init c = spelled_none c.args.text.now c.args.start

pub returns-in-Word-2 : goal.returns-in-Word-2
returns-in-Word-2 c =
    let text = c.args.text.now in
    let start = c.args.start in
    let k = c.loop-length.length in
    let l = within_text text start k (let w = c.requires.within in omega arith) c.loop-length-test.true in
    subst (λ (f : Fault). WordFrom text start (Err f)) (sym c.at.ensures) (spelled_long text start k c.loop-length.invariant l (class_tells (get_or text (start + k) 0) Word (sym c.in-Word-2.is ∙ c.class_of.ensures ∙ ap class_of (byte_of_rest text start k))) (let f = c.if-length-lt-LONGEST.false in omega arith))

pub returns-in-Other : goal.returns-in-Other
returns-in-Other c =
    let text = c.args.text.now in
    let start = c.args.start in
    let k = c.loop-length.length in
    let l = within_text text start k (let w = c.requires.within in omega arith) c.loop-length-test.true in
    let t = class_tells (get_or text (start + k) 0) Other (sym c.in-Other.is ∙ c.class_of.ensures ∙ ap class_of (byte_of_rest text start k)) in
    subst (λ (f : Fault). WordFrom text start (Err f)) (sym c.at-in-Other.ensures) (spelled_bad text start k c.loop-length.invariant l t.0 t.1 t.2)

pub returns-in-Blank : goal.returns-in-Blank
returns-in-Blank c =
    let text = c.args.text.now in
    let start = c.args.start in
    let k = c.loop-length.length in
    let l = within_text text start k (let w = c.requires.within in omega arith) c.loop-length-test.true in
    let t = class_tells (get_or text (start + k) 0) Blank (sym c.in-Blank.is ∙ c.class_of.ensures ∙ ap class_of (byte_of_rest text start k)) in
    spelled_blank text start k c.loop-length.invariant l (not_first text start k c.loop-length.invariant (get_or text (start + k) 0) refl c.requires.begins t.0) t.0 t.1

pub loop-length-preserved : goal.loop-length-preserved
loop-length-preserved c =
    let text = c.args.text.now in
    let start = c.args.start in
    let k = c.loop-length.length in
    let l = within_text text start k (let w = c.requires.within in omega arith) c.loop-length-test.true in
    let t = class_tells (get_or text (start + k) 0) Word (sym c.in-Word.is ∙ c.class_of.ensures ∙ ap class_of (byte_of_rest text start k)) in
    spelled_more text start k c.loop-length.invariant l t c.if-length-lt-LONGEST.true

pub returns-in-Semicolon : goal.returns-in-Semicolon
returns-in-Semicolon c =
    let text = c.args.text.now in
    let start = c.args.start in
    let k = c.loop-length.length in
    let l = within_text text start k (let w = c.requires.within in omega arith) c.loop-length-test.true in
    let t = class_tells (get_or text (start + k) 0) Semicolon (sym c.in-Semicolon.is ∙ c.class_of.ensures ∙ ap class_of (byte_of_rest text start k)) in
    spelled_semicolon text start k c.loop-length.invariant l (not_first text start k c.loop-length.invariant (get_or text (start + k) 0) refl c.requires.begins t.0) t.0 t.1 t.2

pub returns : goal.returns
returns c =
    let text = c.args.text.now in
    let start = c.args.start in
    let k = c.loop-length.length in
    let w = c.requires.within in
    let most = c.loop-length.auto.length-end in
    let all = rest_ends text start k (omega arith) most (λ l. let f = c.loop-length-test.false in omega arith) in
    spelled_end text start k c.loop-length.invariant (omega arith) all
