-- A word that is missing or refused refuses what is left.
use Rattle.std.proofs.Common.{◌≡◌, Bool, true, false, cond, List, [], ◌∷◌, Some, None, Err, Result, codes, sym, ap, ◌∙◌, subst}
use Rattle.std.specs.Option.{option_map}
use Rattle.std.specs.Str.{bytes_eq}
use Rattle.std.proofs.lemmas.Bool.{cond-true}
use Rattle.words.specs.declared.faults.Cause.TheVariants.{WrongWord}
use Rattle.words.specs.declared.faults.Fault.{Fault}
use Rattle.words.specs.Sentences.{Placed, Sentence, Ending}
use Rattle.words.specs.Reading.{first, with_first_word}
use Rattle.sentences.specs.Wants.{name, at_byte, no_word, word_fault, reserved, closed}
use Rattle.items.specs.declared.parts.Item.{Item as Read}
use Rattle.items.specs.declared.parts.Stage.{Stage}
use Rattle.items.specs.Items.{Items, instance_named, refused, with_item, if_closed, heading, outside_by, inside_by, items_from}
use Rattle.items.specs.Parsing.{StepRead}

-- what is read is refused by the fault that is left
pub by_fault : (before : Items) (after : List Sentence) (f : Fault) (r : Result (Read × Stage) Fault) → r ≡ Err f → before ≡ refused f → StepRead before r after
by_fault before after f r is bad = subst (λ (x : Result (Read × Stage) Fault). StepRead before x after) (sym is) bad

inside_none : (ws : List Placed) (e : Ending) (f : Fault) (a b : Items) → ws ≡ [] → no_word e ≡ f → inside_by ws e a b ≡ refused f
inside_none ws e f a b none is = ap (λ (x : List Placed). inside_by x e a b) none ∙ ap refused is

outside_none : (ws : List Placed) (e : Ending) (f : Fault) (a b : Items) → ws ≡ [] → no_word e ≡ f → outside_by ws e a b ≡ refused f
outside_none ws e f a b none is = ap (λ (x : List Placed). outside_by x e a b) none ∙ ap refused is

-- no word is left in the sentence
pub none_left : (b : Bool) (l : List Sentence) (f : Fault) → (first l).words ≡ [] → no_word (first l).ending ≡ f → items_from b l ≡ refused f
none_left b [] f none is = ap refused is
none_left true (s ∷ ss) f none is = inside_none s.words s.ending f _ _ none is
none_left false (s ∷ ss) f none is = outside_none s.words s.ending f _ _ none is

-- a name is missing, or is none
no_name : (ws : List Placed) (e : Ending) (f : Fault) (a : Items) → word_fault name ws e ≡ Some f → heading ws e a ≡ refused f
no_name [] e f a is = let same : no_word e ≡ f = cc in ap refused same
no_name (n ∷ ws) e f a is = go (reserved n.bytes) (with_item (instance_named n) (if_closed (closed ws e) a)) is
  where
    go : (r : Bool) (x : Items) → option_map (λ c. at_byte c n.start) (cond r (Some WrongWord) None) ≡ Some f → cond r (refused (at_byte WrongWord n.start)) x ≡ refused f
    go true x same = let z : at_byte WrongWord n.start ≡ f = cc in ap refused z
    go false x same = cc

pub no_heading : (v : Placed) (before mid : List Sentence) (f : Fault) → before ≡ with_first_word v mid → bytes_eq v.bytes (codes "instance") ≡ true →
    word_fault name (first mid).words (first mid).ending ≡ Some f → items_from false before ≡ refused f
no_heading v before mid f is begins bad =
    ap (items_from false) is ∙ cond-true {A = Items} (bytes_eq v.bytes (codes "instance")) _ _ begins ∙ no_name (first mid).words (first mid).ending f _ bad
