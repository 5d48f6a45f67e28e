-- What the items that were read say is what the sentences say.
use Rattle.std.proofs.Common.{◌≡◌, ℕ, Bool, true, false, not, cond, List, [], ◌∷◌, ◌++◌, map, flat_map, Ok, Err, Result, refl, sym, ap, ◌∙◌, subst, codes, append_assoc}
use Rattle.std.specs.Str.{bytes_eq}
use Rattle.std.specs.List.{list_all}
use Rattle.std.proofs.lemmas.Bool.{and_from}
use Rattle.std.proofs.lemmas.List.Folds.{list_all-append}
use Rattle.words.specs.declared.faults.Cause.TheVariants.{WrongWord}
use Rattle.words.specs.declared.faults.Fault.{Fault}
use Rattle.words.specs.Sentences.{Placed, Sentence, Ending, semicolon as ends_at, text_end, fault}
use Rattle.words.specs.Reading.{others}
use Rattle.sentences.specs.Wants.{at_byte, exactly, name, closed, reads, reserved}
use Rattle.sentences.specs.Events.{EventWords, event_in}
use Rattle.items.specs.Items.{Item, Items, instance_named, event, instance_ends, refused, with_item, if_closed, if_event, heading, outside_by, inside_by, finished, items_from}
use Rattle.items.specs.Instances.{events_before, instances_in}
use Rattle.items.specs.Parsing.{second, title_in}
use Rattle.grammar.specs.Brackets.{bracketed}
use Rattle.grammar.specs.Texts.{ChartText}
use Rattle.grammar.specs.Pieces.{event_sentence, instance_sentences, chart_sentences}
use Rattle.grammar.specs.Writing.{is_name, names_of_event, names_of_instance, names_of_chart}
use Rattle.grammar.specs.Charts.{event_by, instance_by, chart_by}
use Rattle.grammar.proofs.Bracketing.{items_bracketed}
use Rattle.grammar.proofs.Saying.{Sentenced, Says}
use Rattle.grammar.proofs.Events.{took, was_closed, same_bytes, exactly_is, name_is, event_is}

-- the words of an item
abbrev pub item_sentence : Item → List (List ℕ)
item_sentence (instance_named n) = codes "instance" ∷ n.bytes ∷ []
item_sentence (event e) = event_sentence (event_by e)
item_sentence instance_ends = codes "endinstance" ∷ []

-- the names in an item
abbrev pub item_names : Item → List (List ℕ)
item_names (instance_named n) = n.bytes ∷ []
item_names (event e) = names_of_event (event_by e)
item_names instance_ends = []

-- the sentences are those of the items and of the end, and the names are allowed
pub record Told (ss : List Sentence) (is : List Item) : Type 0 where
  pub says : Says ss (map item_sentence is ++ ((codes "endmsc" ∷ []) ∷ []))
  pub named : list_all is_name (flat_map item_names is) ≡ true

-- where nothing is refused
abbrev pub ToldIf : List Sentence → Items → Type 0
ToldIf ss is = is.outcome ≡ Ok tt → Told ss is.items

refused_told : (ss : List Sentence) (f : Fault) → ToldIf ss (refused f)
refused_told ss f h = cc

-- one item more
item_told : (ws : List Placed) (e : Ending) (ss : List Sentence) (i : Item) (is : Items) → Sentenced ws e (item_sentence i) → list_all is_name (item_names i) ≡ true → ToldIf ss is →
    ToldIf (record { words = ws; ending = e } ∷ ss) (with_item i is)
item_told ws e ss i is one named so h =
    let t = so h in
    record {
      says = (one, t.says);
      named = list_all-append is_name (item_names i) (flat_map item_names is.items) ∙ and_from (list_all is_name (item_names i)) (list_all is_name (flat_map item_names is.items)) named t.named;
    }

either : (ss : List Sentence) (b : Bool) (x y : Items) → (b ≡ true → ToldIf ss x) → (b ≡ false → ToldIf ss y) → ToldIf ss (cond b x y)
either ss true x y hx hy = hx refl
either ss false x y hx hy = hy refl

-- a sentence that was closed
closed_told : (v : Placed) (ws : List Placed) (e : Ending) (ss : List Sentence) (is : Items) → ((n : ℕ) → ToldIf (record { words = v ∷ []; ending = ends_at n } ∷ ss) is) →
    ToldIf (record { words = v ∷ ws; ending = e } ∷ ss) (if_closed (closed ws e) is)
closed_told v [] (ends_at n) ss is so = so n
closed_told v [] (text_end n) ss is so = refused_told _ _
closed_told v [] (fault c n) ss is so = refused_told _ _
closed_told v (w ∷ ws) e ss is so = refused_told _ _

heading_told : (v : Placed) (ws : List Placed) (e : Ending) (ss : List Sentence) (inside : Items) → v.bytes ≡ codes "instance" → ToldIf ss inside →
    ToldIf (record { words = v ∷ ws; ending = e } ∷ ss) (heading ws e inside)
heading_told v [] e ss inside is so = refused_told _ _
heading_told v (n ∷ ws) e ss inside is so =
    either _ (reserved n.bytes) (refused (at_byte WrongWord n.start)) (with_item (instance_named n) (if_closed (closed ws e) inside)) (λ a. refused_told _ _) (λ free. go free ws e)
  where
    go : reserved n.bytes ≡ false → (ws : List Placed) (e : Ending) → ToldIf (record { words = v ∷ n ∷ ws; ending = e } ∷ ss) (with_item (instance_named n) (if_closed (closed ws e) inside))
    go free [] (ends_at k) =
        item_told (v ∷ n ∷ []) (ends_at k) ss (instance_named n) inside (record { words = ap (λ (u : List ℕ). u ∷ n.bytes ∷ []) is; at = k; ending = refl })
        (and_from (is_name n.bytes) true (ap not free) refl) so
    go free [] (text_end k) = λ h. cc
    go free [] (fault c k) = λ h. cc
    go free (w ∷ ws) e = λ h. cc

inside_told : (ws : List Placed) (e : Ending) (ss : List Sentence) (inside outside : Items) → ToldIf ss inside → ToldIf ss outside →
    ToldIf (record { words = ws; ending = e } ∷ ss) (inside_by ws e inside outside)
inside_told [] e ss inside outside hi ho = refused_told _ _
inside_told (v ∷ ws) e ss inside outside hi ho =
    either _ (bytes_eq v.bytes (codes "endinstance")) (if_closed (closed ws e) (with_item instance_ends outside)) (if_event (event_in v (record { words = ws; ending = e })) inside)
    (λ is.
    closed_told v ws e ss (with_item instance_ends outside)
    (λ n.
    item_told (v ∷ []) (ends_at n) ss instance_ends outside
    (record { words = ap (λ (u : List ℕ). u ∷ []) (same_bytes v.bytes (codes "endinstance") is); at = n; ending = refl }) refl ho))
    (λ is. go (event_in v (record { words = ws; ending = e })) refl)
  where
    go : (r : Result EventWords Fault) → event_in v (record { words = ws; ending = e }) ≡ r → ToldIf (record { words = v ∷ ws; ending = e } ∷ ss) (if_event r inside)
    go (Ok x) is = let w = event_is v ws e x is in item_told (v ∷ ws) e ss (event x) inside w.one w.named hi
    go (Err f) is = refused_told _ _

outside_told : (ws : List Placed) (e : Ending) (ss : List Sentence) (inside : Items) → ToldIf ss inside → ToldIf (record { words = ws; ending = e } ∷ ss) (outside_by ws e inside (finished ss))
outside_told [] e ss inside hi = refused_told _ _
outside_told (v ∷ ws) e ss inside hi =
    either _ (bytes_eq v.bytes (codes "instance")) (heading ws e inside) (cond (bytes_eq v.bytes (codes "endmsc")) (if_closed (closed ws e) (finished ss)) (refused (at_byte WrongWord v.start)))
    (λ is. heading_told v ws e ss inside (same_bytes v.bytes (codes "instance") is) hi)
    (λ other.
    either _ (bytes_eq v.bytes (codes "endmsc")) (if_closed (closed ws e) (finished ss)) (refused (at_byte WrongWord v.start))
    (λ is.
    closed_told v ws e ss (finished ss)
    (λ n h. record { says = (record { words = ap (λ (u : List ℕ). u ∷ []) (same_bytes v.bytes (codes "endmsc") is); at = n; ending = refl }, h); named = refl }))
    (λ is. refused_told _ _))

items_told : (inside : Bool) (ss : List Sentence) → ToldIf ss (items_from inside ss)
items_told inside [] = refused_told _ _
items_told true (s ∷ ss) = inside_told s.words s.ending ss (items_from true ss) (items_from false ss) (items_told true ss) (items_told false ss)
items_told false (s ∷ ss) = outside_told s.words s.ending ss (items_from true ss) (items_told true ss)

-- the words of items are those of their instances, where an instance that has begun has its events and its end first
words_left : (inside : Bool) (is : List Item) → bracketed inside is ≡ true →
    map item_sentence is ≡
    cond inside (map event_sentence (map event_by (events_before is)) ++ ((codes "endinstance" ∷ []) ∷ [])) [] ++ flat_map instance_sentences (map instance_by (instances_in is))
words_left true [] h = cc
words_left true (instance_named n ∷ is) h = cc
words_left true (event e ∷ is) h = ap (λ (vss : List (List (List ℕ))). event_sentence (event_by e) ∷ vss) (words_left true is h)
words_left true (instance_ends ∷ is) h = ap (λ (vss : List (List (List ℕ))). (codes "endinstance" ∷ []) ∷ vss) (words_left false is h)
words_left false [] h = refl
words_left false (instance_named n ∷ is) h = ap (λ (vss : List (List (List ℕ))). (codes "instance" ∷ n.bytes ∷ []) ∷ vss) (words_left true is h)
words_left false (event e ∷ is) h = cc
words_left false (instance_ends ∷ is) h = cc

-- and so are the names
names_left : (inside : Bool) (is : List Item) → bracketed inside is ≡ true →
    flat_map item_names is ≡ cond inside (flat_map names_of_event (map event_by (events_before is))) [] ++ flat_map names_of_instance (map instance_by (instances_in is))
names_left true [] h = cc
names_left true (instance_named n ∷ is) h = cc
names_left true (event e ∷ is) h =
    ap (λ (ns : List (List ℕ)). names_of_event (event_by e) ++ ns) (names_left true is h)
    ∙ sym (append_assoc (names_of_event (event_by e)) (flat_map names_of_event (map event_by (events_before is))) (flat_map names_of_instance (map instance_by (instances_in is))))
names_left true (instance_ends ∷ is) h = names_left false is h
names_left false [] h = refl
names_left false (instance_named n ∷ is) h = ap (λ (ns : List (List ℕ)). n.bytes ∷ ns) (names_left true is h)
names_left false (event e ∷ is) h = cc
names_left false (instance_ends ∷ is) h = cc

-- the title in the first sentence
pub record TitleIs (ws : List Placed) (e : Ending) (t : Placed) : Type 0 where
  pub one : Sentenced ws e (codes "msc" ∷ t.bytes ∷ [])
  pub named : is_name t.bytes ≡ true

title_is : (ws : List Placed) (e : Ending) (t : Placed) → second (reads (exactly (codes "msc") ∷ name ∷ []) ws e) ≡ Ok t → TitleIs ws e t
title_is ws e t h = go (reads (exactly (codes "msc") ∷ name ∷ []) ws e) refl h
  where
    go : (r : Result (List Placed) Fault) → reads (exactly (codes "msc") ∷ name ∷ []) ws e ≡ r → second r ≡ Ok t → TitleIs ws e t
    go (Ok us) read h =
        let a = took (exactly (codes "msc")) (name ∷ []) ws e us read in
        let b = took name [] a.rest e a.after a.read in
        let d = was_closed b.rest e b.after b.read in
        let words : ws ≡ a.first ∷ b.first ∷ [] = cc in
        let all : us ≡ a.first ∷ b.first ∷ [] = cc in
        let is : Ok b.first ≡ Ok t = sym (ap (λ (vs : List Placed). second (Ok vs)) all) ∙ h in
        let same : b.first ≡ t = cc in
        subst (TitleIs ws e) same
        (record {
          one = record { words = ap (λ (vs : List Placed). map (λ w. w.bytes) vs) words ∙ ap (λ (u : List ℕ). u ∷ b.first.bytes ∷ []) (exactly_is (codes "msc") a.first.bytes a.fits); at = d.at; ending = d.ending };
          named = name_is b.first.bytes b.fits;
        })
    go (Err f) read h = cc

-- the sentences of a text that was read are those of its chart, and the names in it are allowed
pub record Found (ss : List Sentence) (c : ChartText) : Type 0 where
  pub says : Says ss (chart_sentences c)
  pub named : list_all is_name (names_of_chart c) ≡ true

pub was_found : (ss : List Sentence) (t : Placed) → title_in ss ≡ Ok t → (items_from false (others ss)).outcome ≡ Ok tt → Found ss (chart_by t (items_from false (others ss)).items)
was_found [] t h k = cc
was_found (s ∷ ss) t h k =
    let first = title_is s.words s.ending t h in
    let so = items_told false ss k in
    let whole = items_bracketed false ss k in
    let is = (items_from false ss).items in
    record {
      says = (first.one, subst (λ (vss : List (List (List ℕ))). Says ss (vss ++ ((codes "endmsc" ∷ []) ∷ []))) (words_left false is whole) so.says);
      named = and_from (is_name t.bytes) (list_all is_name (flat_map names_of_instance (map instance_by (instances_in is)))) first.named (ap (list_all is_name) (sym (names_left false is whole)) ∙ so.named);
    }
