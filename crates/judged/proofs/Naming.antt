-- The names in a chart, found by their numbers.
use Rattle.std.proofs.Common.{◌≡◌, ℕ, zero, suc, ◌<◌, Bool, true, false, cond, ◌||◌, List, [], ◌∷◌, ◌++◌, length, map, fold, flat_map, slice_get, slice_index_or, Some, None, Option, option_map, inl, inr, refl, sym, ap, ◌∙◌, subst, arith}
use Rattle.std.specs.Str.{bytes_eq}
use Rattle.std.proofs.lemmas.Bool.{or_cases, cases_Bool}
use Rattle.std.proofs.lemmas.Grind.{flat_map-append}
use Rattle.std.proofs.lemmas.Option.{slice_get-map}
use Rattle.std.proofs.lemmas.Slice.Eq.{bytes_eq-Decides}
use Rattle.charts.specs.declared.parts.Event.{Event}
use Rattle.charts.specs.Events.{no_event}
use Rattle.charts.specs.Lists.{count_of, event_of}
use Rattle.grammar.specs.Texts.{EventText, InstanceText}
use Rattle.texts.specs.declared.rows.Name.{Name}
use Rattle.texts.specs.Names.{has, with_name, once, place_in}
use Rattle.texts.specs.Builds.{bytes_at}
use Rattle.lines.specs.Names.{name_of, name_at}

-- a name stands at its place
pub stands_at : (ns : List (List ℕ)) (q : List ℕ) → has ns q ≡ true → slice_get ns (place_in ns q) ≡ Some q
stands_at [] q h = cc
stands_at (n ∷ ns) q h =
    elim (cases_Bool (bytes_eq n q)) [
      | inl same ↦ ap (λ (b : Bool). slice_get (n ∷ ns) (cond b 0 (suc (place_in ns q)))) same ∙ ap Some ((bytes_eq-Decides n q).0 same)
      | inr other ↦ ap (λ (b : Bool). slice_get (n ∷ ns) (cond b 0 (suc (place_in ns q)))) other ∙ stands_at ns q (sym (ap (λ (b : Bool). b || has ns q) other) ∙ h)
    ]

pub has_own : (q : List ℕ) (ns : List (List ℕ)) → has (q ∷ ns) q ≡ true
has_own q ns = ap (λ (b : Bool). b || has ns q) ((bytes_eq-Decides q q).1 refl)

-- it stays among more names
or_true : (b : Bool) → (b || true) ≡ true
or_true true = refl
or_true false = refl

has_left : (xs ys : List (List ℕ)) (q : List ℕ) → has xs q ≡ true → has (xs ++ ys) q ≡ true
has_left [] ys q h = cc
has_left (x ∷ xs) ys q h =
    elim (or_cases (bytes_eq x q) (has xs q) h) [
      | inl same ↦ ap (λ (b : Bool). b || has (xs ++ ys) q) same
      | inr more ↦ ap (λ (b : Bool). bytes_eq x q || b) (has_left xs ys q more) ∙ or_true (bytes_eq x q)
    ]

has_right : (xs ys : List (List ℕ)) (q : List ℕ) → has ys q ≡ true → has (xs ++ ys) q ≡ true
has_right [] ys q h = h
has_right (x ∷ xs) ys q h = ap (λ (b : Bool). bytes_eq x q || b) (has_right xs ys q h) ∙ or_true (bytes_eq x q)

-- and once among each once
with_stays : (ns : List (List ℕ)) (n q : List ℕ) → has ns q ≡ true → has (with_name ns n) q ≡ true
with_stays ns n q h = go (has ns n)
  where
    go : (b : Bool) → has (cond b ns (ns ++ (n ∷ []))) q ≡ true
    go true = h
    go false = has_left ns (n ∷ []) q h

with_own : (ns : List (List ℕ)) (q : List ℕ) → has (with_name ns q) q ≡ true
with_own ns q = go (has ns q) refl
  where
    go : (b : Bool) → has ns q ≡ b → has (cond b ns (ns ++ (q ∷ []))) q ≡ true
    go true is = is
    go false is = has_right ns (q ∷ []) q (has_own q [])

fold_stays : (s ns : List (List ℕ)) (q : List ℕ) → has s q ≡ true → has (fold with_name s ns) q ≡ true
fold_stays s [] q h = h
fold_stays s (n ∷ ns) q h = fold_stays (with_name s n) ns q (with_stays s n q h)

fold_has : (s ns : List (List ℕ)) (q : List ℕ) → has ns q ≡ true → has (fold with_name s ns) q ≡ true
fold_has s [] q h = cc
fold_has s (n ∷ ns) q h =
    elim (or_cases (bytes_eq n q) (has ns q) h) [
      | inl same ↦ fold_stays (with_name s n) ns q (subst (λ (m : List ℕ). has (with_name s m) q ≡ true) (sym ((bytes_eq-Decides n q).0 same)) (with_own s q))
      | inr more ↦ fold_has (with_name s n) ns q more
    ]

pub once_has : (ns : List (List ℕ)) (q : List ℕ) → has ns q ≡ true → has (once ns) q ≡ true
once_has ns q h = fold_has [] ns q h

-- the names that an event brings are among those of all events
among_events : (f : EventText → List (List ℕ)) (es : List EventText) (k : ℕ) (e : EventText) (q : List ℕ) → slice_get es k ≡ Some e → has (f e) q ≡ true → has (flat_map f es) q ≡ true
among_events f [] k e q at h = cc
among_events f (x ∷ es) zero e q at h = let is : x ≡ e = cc in has_left (f x) (flat_map f es) q (subst (λ (y : EventText). has (f y) q ≡ true) (sym is) h)
among_events f (x ∷ es) (suc k) e q at h = has_right (f x) (flat_map f es) q (among_events f es k e q at h)

pub among_all : (f : EventText → List (List ℕ)) (ns : List InstanceText) (i k : ℕ) (n : InstanceText) (e : EventText) (q : List ℕ) → slice_get ns i ≡ Some n → slice_get n.events k ≡ Some e → has (f e) q ≡ true →
    has (flat_map f (flat_map (λ (m : InstanceText). m.events) ns)) q ≡ true
among_all f [] i k n e q at here h = cc
among_all f (m ∷ ns) zero k n e q at here h =
    let is : m ≡ n = cc in
    ap (λ (xs : List (List ℕ)). has xs q) (flat_map-append f m.events (flat_map (λ (m : InstanceText). m.events) ns))
    ∙ has_left (flat_map f m.events) _ q (among_events f m.events k e q (ap (λ (x : InstanceText). slice_get x.events k) is ∙ here) h)
among_all f (m ∷ ns) (suc i) k n e q at here h =
    ap (λ (xs : List (List ℕ)). has xs q) (flat_map-append f m.events (flat_map (λ (m : InstanceText). m.events) ns)) ∙ has_right (flat_map f m.events) _ q (among_all f ns i k n e q at here h)

-- the name of a row
pub row_named : (text : List ℕ) (rows : List Name) (names : List (List ℕ)) (i : ℕ) (q : List ℕ) → map (bytes_at text) rows ≡ names → slice_get names i ≡ Some q → name_at text rows i ≡ q
row_named text rows names i q are at = go (slice_get rows i) (sym (slice_get-map (bytes_at text) rows i) ∙ ap (λ (ns : List (List ℕ)). slice_get ns i) are ∙ at)
  where
    go : (o : Option Name) → option_map (bytes_at text) o ≡ Some q → name_of text o ≡ q
    go None h = cc
    go (Some r) h = cc

-- an event of the chart's lists, in its text
pub record Said (f : EventText → Event) (ns : List InstanceText) (i k : ℕ) (e : Event) : Type 0 where
  pub instance_text : InstanceText
  pub event_text : EventText
  pub instance_at : slice_get ns i ≡ Some instance_text
  pub event_at : slice_get instance_text.events k ≡ Some event_text
  pub is : e ≡ f event_text

said_in : (f : EventText → Event) (n : InstanceText) (ns : List InstanceText) (k : ℕ) (xs : List EventText) (same : n.events ≡ xs) → k < length (map f xs) → Said f (n ∷ ns) 0 k (slice_index_or (map f xs) k no_event)
said_in f n ns k xs same l = go xs k l (ap (λ (ys : List EventText). slice_get ys k) same)
  where
    go : (ys : List EventText) (j : ℕ) → j < length (map f ys) → slice_get n.events k ≡ slice_get ys j → Said f (n ∷ ns) 0 k (slice_index_or (map f ys) j no_event)
    go [] j l at = absurd (omega arith)
    go (y ∷ ys) zero l at = record { instance_text = n; event_text = y; instance_at = refl; event_at = at; is = refl }
    go (y ∷ ys) (suc j) l at = go ys j (omega arith) at

pub said : (f : EventText → Event) (ns : List InstanceText) (i k : ℕ) → k < count_of (map (λ (m : InstanceText). map f m.events) ns) i → Said f ns i k (event_of (map (λ (m : InstanceText). map f m.events) ns) i k)
said f [] i k l = absurd (omega arith)
said f (n ∷ ns) zero k l = said_in f n ns k n.events refl l
said f (n ∷ ns) (suc i) k l =
    let r = said f ns i k l in
    record { instance_text = r.instance_text; event_text = r.event_text; instance_at = r.instance_at; event_at = r.event_at; is = r.is }
