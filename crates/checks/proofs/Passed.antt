-- The checks of a table as facts about its events, place by place.
use Rattle.std.proofs.Common.{◌≡◌, ℕ, ◌+◌, ◌<◌, ◌≤◌, Bool, true, false, cond, not, ◌&&◌, ◌||◌, eqb, ltb, leb, ◌⊎◌, List, length, get_or, None, sum, Option, refl, ◌∙◌, subst, inl, inr, arith}
use Rattle.std.proofs.lemmas.Bool.{and_parts, and_from, or_cases, or_left, or_right, not-true, eqb-true, eqb-false, eq-eqb, ne_eqb, leb-true, le-leb, ltb-true, lt-ltb, cases_eq, cases_Bool, both_ways, not_from_false, cond-true, cond-false}
use Rattle.charts.specs.declared.parts.Event.{Event}
use Rattle.charts.specs.Events.{output, action, environment, Message, is_message, no_event}
use Rattle.charts.proofs.Messages.{message_yes, message_from}
use Rattle.checks.specs.Choice.{unless}
use Rattle.checks.specs.Cut.{instance_of}
use Rattle.checks.specs.Rules.{known_kind, known_peer, well_formed, first_place, not_repeated, other_kind, joins, has_match, matched}
use Rattle.checks.specs.Checked.{table_fault, scan, checked}
use Rattle.checks.proofs.Chosen.{unless_none, none_unless, or_else_none, none_or_else}
use Rattle.checks.proofs.Scans.{scan_none, none_scan}

pub record Formed (width : ℕ) (e : Event) : Type 0 where
  pub low : output ≤ e.kind
  pub high : e.kind ≤ action
  pub peer : (e.peer ≡ environment) ⊎ (Message e × (e.peer < width))
  pub number : e.number ≤ 4095

pub record Joined (ns : List ℕ) (es : List Event) (q i j : ℕ) : Type 0 where
  pub within : q < length es
  pub instance : instance_of ns q ≡ i
  pub peer : (get_or es q no_event).peer ≡ j

-- where the other event of the message stands
abbrev pub partner : List Event → Event → ℕ
partner es e = first_place (other_kind e.kind) e.number es

pub record Paired (ns : List ℕ) (es : List Event) (p : ℕ) (e : Event) : Type 0 where
  pub alone : e.peer ≡ environment → length es ≤ partner es e
  pub joined : (e.peer ≡ environment → ⊥) → Joined ns es (partner es e) e.peer (instance_of ns p)

pub record Passed (ns : List ℕ) (es : List Event) : Type 0 where
  pub wide : length ns ≤ 32
  pub long : length es ≤ 4096
  pub even : sum ns ≡ length es
  pub formed : (p : ℕ) → p < length es → Formed (length ns) (get_or es p no_event)
  pub single : (p : ℕ) → p < length es → Message (get_or es p no_event) → p ≤ first_place (get_or es p no_event).kind (get_or es p no_event).number es
  pub paired : (p : ℕ) → p < length es → Message (get_or es p no_event) → Paired ns es p (get_or es p no_event)

-- the form of one event
module _ (width k : ℕ) (e : Event) where
  pub formed_from : well_formed width k e ≡ None → Formed width e
  formed_from n =
      let a = or_else_none (unless (known_kind e) 14) _ n in
      let b = or_else_none (unless (known_peer width e) 15) _ a.1 in
      let c = or_else_none (unless (leb e.number 4095) 16) _ b.1 in
      let k = and_parts (leb output e.kind) (leb e.kind action) (unless_none (known_kind e) 14 a.0) in
      record {
        low = leb-true output e.kind k.0;
        high = leb-true e.kind action k.1;
        peer =
            elim (or_cases (eqb e.peer environment) (is_message e && ltb e.peer width) (unless_none (known_peer width e) 15 b.0)) [
              | inl t ↦ inl (eqb-true e.peer environment t)
              | inr t ↦ let m = and_parts (is_message e) (ltb e.peer width) t in inr (message_from e m.0, ltb-true e.peer width m.1)
            ];
        number = leb-true e.number 4095 (unless_none (leb e.number 4095) 16 c.0);
      }

  peer_yes : (e.peer ≡ environment) ⊎ (Message e × (e.peer < width)) → known_peer width e ≡ true
  peer_yes (inl t) = or_left (eqb e.peer environment) (is_message e && ltb e.peer width) (eq-eqb e.peer environment t)
  peer_yes (inr t) =
      or_right (eqb e.peer environment) (is_message e && ltb e.peer width)
      (and_from (is_message e) (ltb e.peer width) (message_yes e t.0) (lt-ltb e.peer width t.1))

  pub formed_none : Formed width e → well_formed width k e ≡ None
  formed_none f =
      none_or_else (unless (known_kind e) 14) _
      (none_unless (known_kind e) 14 (and_from (leb output e.kind) (leb e.kind action) (le-leb output e.kind f.low) (le-leb e.kind action f.high))) ∙
      (none_or_else (unless (known_peer width e) 15) _ (none_unless (known_peer width e) 15 (peer_yes f.peer)) ∙
      none_or_else (unless (leb e.number 4095) 16) None (none_unless (leb e.number 4095) 16 (le-leb e.number 4095 f.number)))

-- a rule that is about messages only
module _ (e : Event) (t : Bool) where
  message_only : (not (is_message e) || t) ≡ true → Message e → t ≡ true
  message_only o m =
      elim (or_cases (not (is_message e)) t o)
      [ inl n ↦ absurd (both_ways (is_message e) (not-true (is_message e) n) (message_yes e m)) | inr y ↦ y ]

  message_all : (Message e → t ≡ true) → (not (is_message e) || t) ≡ true
  message_all h =
      elim (cases_Bool (is_message e))
      [ inl y ↦ or_right (not (is_message e)) t (h (message_from e y)) | inr n ↦ or_left (not (is_message e)) t (not_from_false (is_message e) n) ]

module _ (es : List Event) (k : ℕ) (e : Event) where
  pub single_from : not_repeated es k e ≡ None → Message e → k ≤ first_place e.kind e.number es
  single_from n m =
      leb-true k (first_place e.kind e.number es)
      (message_only e (leb k (first_place e.kind e.number es)) (unless_none _ 17 n) m)

  pub single_none : (Message e → k ≤ first_place e.kind e.number es) → not_repeated es k e ≡ None
  single_none h =
      none_unless _ 17 (message_all e (leb k (first_place e.kind e.number es)) (λ m. le-leb k (first_place e.kind e.number es) (h m)))

module _ (ns : List ℕ) (es : List Event) where
  pub joined_from : (q i j : ℕ) → joins ns es q i j ≡ true → Joined ns es q i j
  joined_from q i j t =
      let a = and_parts (ltb q (length es)) _ t in
      let b = and_parts (eqb (instance_of ns q) i) _ a.1 in
      record { within = ltb-true q (length es) a.0; instance = eqb-true (instance_of ns q) i b.0; peer = eqb-true (get_or es q no_event).peer j b.1 }

  pub joins_yes : (q i j : ℕ) → Joined ns es q i j → joins ns es q i j ≡ true
  joins_yes q i j r =
      and_from (ltb q (length es)) (eqb (instance_of ns q) i && eqb (get_or es q no_event).peer j) (lt-ltb q (length es) r.within)
      (and_from (eqb (instance_of ns q) i) (eqb (get_or es q no_event).peer j) (eq-eqb (instance_of ns q) i r.instance) (eq-eqb (get_or es q no_event).peer j r.peer))

module _ (ns : List ℕ) (es : List Event) (k : ℕ) (e : Event) where
  pair_split : (t : Bool) → eqb e.peer environment ≡ t →
      cond t (leb (length es) (partner es e)) (joins ns es (partner es e) e.peer (instance_of ns k)) ≡ true → Paired ns es k e
  pair_split true t h =
      record { alone = λ _. leb-true (length es) (partner es e) h; joined = λ n. absurd (n (eqb-true e.peer environment t)) }
  pair_split false t h =
      record { alone = λ y. absurd (eqb-false e.peer environment t y); joined = λ _. joined_from ns es (partner es e) e.peer (instance_of ns k) h }

  pub paired_from : matched ns es k e ≡ None → Message e → Paired ns es k e
  paired_from n m = pair_split (eqb e.peer environment) refl (message_only e (has_match ns es k e) (unless_none _ 18 n) m)

  match_yes : Paired ns es k e → has_match ns es k e ≡ true
  match_yes p =
      elim (cases_eq e.peer environment) [
        | inl y ↦ cond-true (eqb e.peer environment) _ _ (eq-eqb e.peer environment y) ∙ le-leb (length es) (partner es e) (p.alone y)
        | inr n ↦ cond-false (eqb e.peer environment) _ _ (ne_eqb e.peer environment n) ∙ joins_yes ns es (partner es e) e.peer (instance_of ns k) (p.joined n)
      ]

  pub paired_none : (Message e → Paired ns es k e) → matched ns es k e ≡ None
  paired_none h = none_unless _ 18 (message_all e (has_match ns es k e) (λ m. match_yes (h m)))

-- the checks as a whole
module _ (ns : List ℕ) (es : List Event) where
  pub at_place : (rule : ℕ → Event → Option ℕ) → scan rule ns 0 es ≡ None → (p : ℕ) → p < length es → rule p (get_or es p no_event) ≡ None
  at_place rule s p h = let z : 0 + p ≡ p = omega arith in subst (λ (x : ℕ). rule x (get_or es p no_event) ≡ None) z (none_scan rule ns 0 es s p h)

  every_place : (rule : ℕ → Event → Option ℕ) → ((p : ℕ) → p < length es → rule p (get_or es p no_event) ≡ None) → scan rule ns 0 es ≡ None
  every_place rule h = scan_none rule ns 0 es (λ p l. let z : p ≡ 0 + p = omega arith in subst (λ (x : ℕ). rule x (get_or es p no_event) ≡ None) z (h p l))

  pub passed_from : checked ns es ≡ None → Passed ns es
  passed_from n =
      let a = or_else_none (unless (leb (length ns) 32) (table_fault 11 0 0)) _ n in
      let b = or_else_none (unless (leb (length es) 4096) (table_fault 12 0 0)) _ a.1 in
      let c = or_else_none (unless (eqb (sum ns) (length es)) (table_fault 13 0 0)) _ b.1 in
      let d = or_else_none (scan (well_formed (length ns)) ns 0 es) _ c.1 in
      let s = or_else_none (scan (not_repeated es) ns 0 es) _ d.1 in
      let m = or_else_none (scan (matched ns es) ns 0 es) None s.1 in
      record {
        wide = leb-true (length ns) 32 (unless_none _ _ a.0);
        long = leb-true (length es) 4096 (unless_none _ _ b.0);
        even = eqb-true (sum ns) (length es) (unless_none _ _ c.0);
        formed = λ p l. formed_from (length ns) p (get_or es p no_event) (at_place (well_formed (length ns)) d.0 p l);
        single = λ p l. single_from es p (get_or es p no_event) (at_place (not_repeated es) s.0 p l);
        paired = λ p l. paired_from ns es p (get_or es p no_event) (at_place (matched ns es) m.0 p l);
      }

  pub passed_none : Passed ns es → checked ns es ≡ None
  passed_none h =
      none_or_else (unless (leb (length ns) 32) (table_fault 11 0 0)) _ (none_unless _ _ (le-leb (length ns) 32 h.wide)) ∙
      (none_or_else (unless (leb (length es) 4096) (table_fault 12 0 0)) _ (none_unless _ _ (le-leb (length es) 4096 h.long)) ∙
      (none_or_else (unless (eqb (sum ns) (length es)) (table_fault 13 0 0)) _ (none_unless _ _ (eq-eqb (sum ns) (length es) h.even)) ∙
      (none_or_else (scan (well_formed (length ns)) ns 0 es) _ (every_place (well_formed (length ns)) (λ p l. formed_none (length ns) p (get_or es p no_event) (h.formed p l))) ∙
      (none_or_else (scan (not_repeated es) ns 0 es) _ (every_place (not_repeated es) (λ p l. single_none es p (get_or es p no_event) (h.single p l))) ∙
      none_or_else (scan (matched ns es) ns 0 es) None (every_place (matched ns es) (λ p l. paired_none ns es p (get_or es p no_event) (h.paired p l)))))))
