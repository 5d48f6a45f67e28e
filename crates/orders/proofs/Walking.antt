-- Walking from number to number until one is met twice.
use Rattle.std.proofs.Common.{◌≡◌, ℕ, zero, suc, ◌+◌, ◌<◌, ◌≤◌, true, false, eqb, List, [], ◌∷◌, ◌++◌, length, get_or, drop, sym, refl, ap, ◌∙◌, subst, inl, inr, arith}
use Rattle.std.proofs.lemmas.List.{append_cancel_right, length-append, length_push}
use Rattle.std.proofs.lemmas.Bool.{cases_eq, cases_lt, cases_Bool, both_ways, or_cases, or_left, or_right, cond-true, cond-false, eq-eqb, ne_eqb}
use Rattle.orders.specs.Histories.{pos}
use Rattle.orders.specs.Rings.{head_or, Leads}
use Rattle.orders.specs.Walking.{among, since, walked}
use Rattle.orders.proofs.Positions.{pos_append, pos_step, pos_stay}
use Rattle.orders.proofs.Latest.{shorter}

-- a number is among those of a list exactly when it is listed
pub among_listed : (x : ℕ) (met : List ℕ) → among x met ≡ true → 1 ≤ pos met x
among_listed x [] y = absurd (both_ways false refl y)
among_listed x (z ∷ met) y =
    elim (or_cases (eqb z x) (among x met) y) [
      | inl a ↦ let c = cond-true {A = ℕ} (eqb z x) 1 0 a in omega arith
      | inr a ↦ let r = among_listed x met a in omega arith
    ]

pub listed_among : (x : ℕ) (met : List ℕ) → 1 ≤ pos met x → among x met ≡ true
listed_among x [] h = absurd (omega arith)
listed_among x (z ∷ met) h =
    elim (cases_Bool (eqb z x)) [
      | inl a ↦ or_left (eqb z x) (among x met) a
      | inr a ↦ let c = cond-false {A = ℕ} (eqb z x) 1 0 a in or_right (eqb z x) (among x met) (listed_among x met (omega arith))
    ]

pub not_listed : (x : ℕ) (met : List ℕ) → among x met ≡ false → pos met x ≡ 0
not_listed x met n =
    elim (cases_lt 0 (pos met x)) [ inl l ↦ absurd (both_ways (among x met) n (listed_among x met l)) | inr l ↦ omega arith ]

pub not_among : (x : ℕ) (met : List ℕ) → pos met x ≡ 0 → among x met ≡ false
not_among x met z = elim (cases_Bool (among x met)) [ inl y ↦ absurd (let l = among_listed x met y in omega arith) | inr f ↦ f ]

-- what stands at a place of a list is listed
pub get_or_listed : (met : List ℕ) (k x : ℕ) → k < length met → get_or met k 0 ≡ x → 1 ≤ pos met x
get_or_listed [] k x l e = absurd (omega arith)
get_or_listed (z ∷ met) zero x l e = let c = cond-true {A = ℕ} (eqb z x) 1 0 (eq-eqb z x e) in omega arith
get_or_listed (z ∷ met) (suc k) x l e = let r = get_or_listed met k x (omega arith) e in omega arith

-- also where others stand before
pub ring_listed : (lead ring : List ℕ) (k : ℕ) → k < length ring → 1 ≤ pos (lead ++ ring) (get_or ring k 0)
ring_listed lead ring k l =
    let here = get_or_listed ring k (get_or ring k 0) l refl in let all = pos_append lead ring (get_or ring k 0) in omega arith

-- the list from its first x on
since_here : (x : ℕ) (u v : List ℕ) → pos u x ≡ 0 → since x (u ++ (x ∷ v)) ≡ x ∷ v
since_here x [] v h = cond-true {A = List ℕ} (eqb x x) (x ∷ v) (since x v) (eq-eqb x x refl)
since_here x (z ∷ u) v h =
    let n : eqb z x ≡ false = ne_eqb z x (λ e. let c = cond-true {A = ℕ} (eqb z x) 1 0 (eq-eqb z x e) in omega arith) in
    cond-false {A = List ℕ} (eqb z x) (z ∷ (u ++ (x ∷ v))) (since x (u ++ (x ∷ v))) n ∙ since_here x u v (omega arith)

pub since_place : (met : List ℕ) (k x : ℕ) → ((i : ℕ) → pos met i ≤ 1) → k < length met → get_or met k 0 ≡ x → since x met ≡ drop k met
since_place [] k x once l e = absurd (omega arith)
since_place (z ∷ met) zero x once l e = cond-true {A = List ℕ} (eqb z x) (z ∷ met) (since x met) (eq-eqb z x e)
since_place (z ∷ met) (suc k) x once l e =
    let there = get_or_listed met k x (omega arith) e in
    let o = once x in
    let n : eqb z x ≡ false = ne_eqb z x (λ s. let c = cond-true {A = ℕ} (eqb z x) 1 0 (eq-eqb z x s) in omega arith) in
    cond-false {A = List ℕ} (eqb z x) (z ∷ met) (since x met) n ∙ since_place met k x (λ i. let p = once i in omega arith) (omega arith) e

-- a list with x in it, at its first x
record Split (x : ℕ) (met : List ℕ) : Type 0 where
  before : List ℕ
  after : List ℕ
  is : met ≡ before ++ (x ∷ after)
  from_there : since x met ≡ x ∷ after

split : (x : ℕ) (met : List ℕ) → 1 ≤ pos met x → Split x met
split x [] h = absurd (omega arith)
split x (z ∷ met) h =
    elim (cases_eq z x) [
      | inl e ↦
          record {
            before = [];
            after = met;
            is = ap (λ (y : ℕ). y ∷ met) e;
            from_there = cond-true {A = List ℕ} (eqb z x) (z ∷ met) (since x met) (eq-eqb z x e) ∙ ap (λ (y : ℕ). y ∷ met) e;
          }
      | inr n ↦
          let c = cond-false {A = ℕ} (eqb z x) 1 0 (ne_eqb z x n) in
          let r = split x met (omega arith) in
          record {
            before = z ∷ r.before;
            after = r.after;
            is = ap (λ (y : List ℕ). z ∷ y) r.is;
            from_there = cond-false {A = List ℕ} (eqb z x) (z ∷ met) (since x met) (ne_eqb z x n) ∙ r.from_there;
          }
    ]

-- related numbers in turn
head_push : (met : List ℕ) (x y : ℕ) → head_or y (met ++ (x ∷ [])) ≡ head_or x met
head_push [] x y = refl
head_push (z ∷ met) x y = refl

leads_push : (R : ℕ → ℕ → Type 0) (met : List ℕ) (x y : ℕ) → Leads R met x → R x y → Leads R (met ++ (x ∷ [])) y
leads_push R [] x y l r = (r, tt)
leads_push R (z ∷ met) x y l r = (subst (R z) (sym (head_push met x y)) l.0, leads_push R met x y l.1 r)

-- a list whose members are so related is related by whatever follows for its members
pub leads_map : (R S : ℕ → ℕ → Type 0) (met : List ℕ) (y : ℕ) → ((a b : ℕ) → 1 ≤ pos met a → R a b → S a b) → Leads R met y → Leads S met y
leads_map R S [] y f l = tt
leads_map R S (z ∷ met) y f l =
    let here = cond-true {A = ℕ} (eqb z z) 1 0 (eq-eqb z z refl) in
    (f z (head_or y met) (omega arith) l.0, leads_map R S met y (λ a b m r. f a b (omega arith) r) l.1)

-- each of its members is related to one
pub leads_member : (R : ℕ → ℕ → Type 0) (met : List ℕ) (y i : ℕ) → Leads R met y → 1 ≤ pos met i → (b : ℕ) × R i b
leads_member R [] y i l h = absurd (omega arith)
leads_member R (z ∷ met) y i l h =
    elim (cases_eq z i) [
      | inl e ↦ (head_or y met, subst (λ (a : ℕ). R a (head_or y met)) e l.0)
      | inr n ↦ let c = cond-false {A = ℕ} (eqb z i) 1 0 (ne_eqb z i n) in leads_member R met y i l.1 (omega arith)
    ]

-- from x on, each related to the next: those in lead and then the ring, none twice, and the last of the ring related to its first
pub record Round (R : ℕ → ℕ → Type 0) (x : ℕ) (ring : List ℕ) : Type 0 where
  pub lead : List ℕ
  pub first : ℕ
  pub rest : List ℕ
  pub is : ring ≡ first ∷ rest
  pub from : head_or first lead ≡ x
  pub leads : Leads R (lead ++ ring) first
  pub once : (i : ℕ) → pos (lead ++ ring) i ≤ 1

-- numbers below n, none twice, are at most n
below : ℕ → List ℕ
below zero = []
below (suc n) = n ∷ below n

length_below : (n : ℕ) → length (below n) ≡ n
unfolding below
length_below zero = refl
length_below (suc n) = ap suc (length_below n)

below_listed : (n j : ℕ) → j < n → 1 ≤ pos (below n) j
unfolding below
below_listed zero j l = absurd (omega arith)
below_listed (suc n) j l =
    elim (cases_eq n j) [
      | inl e ↦ let c = cond-true {A = ℕ} (eqb n j) 1 0 (eq-eqb n j e) in omega arith
      | inr d ↦ let r = below_listed n j (omega (arith, d)) in omega arith
    ]

pub once_short : (n : ℕ) (met : List ℕ) → ((i : ℕ) → pos met i ≤ 1) → ((i : ℕ) → 1 ≤ pos met i → i < n) → length met ≤ n
once_short n met once few =
    let l = shorter met (below n) fewer in let e = length_below n in omega arith
  where
    fewer : (j : ℕ) → pos met j ≤ pos (below n) j
    fewer j =
        let o = once j in
        elim (cases_lt (pos met j) 1) [ inl l ↦ omega arith | inr l ↦ let b = below_listed n j (few j l) in omega arith ]

-- one step of the walk
pub walked_twice : (next : ℕ → ℕ) (n : ℕ) (met : List ℕ) (x : ℕ) → among x met ≡ true → walked next (suc n) met x ≡ since x met
walked_twice next n met x y = cond-true {A = List ℕ} (among x met) (since x met) (walked next n (met ++ (x ∷ [])) (next x)) y

pub walked_on : (next : ℕ → ℕ) (n : ℕ) (met : List ℕ) (x : ℕ) → among x met ≡ false → walked next (suc n) met x ≡ walked next n (met ++ (x ∷ [])) (next x)
walked_on next n met x f = cond-false {A = List ℕ} (among x met) (since x met) (walked next n (met ++ (x ∷ [])) (next x)) f

-- a walk by next from start, where it has come to x and met those of a list, all of them in Q and none twice
record Met (next : ℕ → ℕ) (Q : ℕ → Type 0) (start : ℕ) (met : List ℕ) (x : ℕ) : Type 0 where
  from : head_or x met ≡ start
  leads : Leads (λ a b. b ≡ next a) met x
  once : (i : ℕ) → pos met i ≤ 1
  members : (i : ℕ) → 1 ≤ pos met i → Q i
  here : Q x

-- a walk by next from start comes round, and all that it meets are in Q
pub record ComesRound (next : ℕ → ℕ) (Q : ℕ → Type 0) (start : ℕ) (ring : List ℕ) : Type 0 where
  pub round : Round (λ a b. b ≡ next a) start ring
  pub members : (i : ℕ) → 1 ≤ pos (round.lead ++ ring) i → Q i

module _ (next : ℕ → ℕ) (Q : ℕ → Type 0) (width : ℕ) (stays : (x : ℕ) → Q x → Q (next x)) (bound : (x : ℕ) → Q x → x < width) where
  met_more : (start : ℕ) (met : List ℕ) (x : ℕ) → Met next Q start met x → pos met x ≡ 0 → Met next Q start (met ++ (x ∷ [])) (next x)
  met_more start met x m new =
      record {
        from = head_push met x (next x) ∙ m.from;
        leads = leads_push (λ a b. b ≡ next a) met x (next x) m.leads refl;
        once = λ i. elim (cases_eq x i) [
          | inl e ↦ let a = pos_step met x in subst (λ (z : ℕ). pos (met ++ (x ∷ [])) z ≤ 1) e (omega arith)
          | inr d ↦ let a = pos_stay met x i d in let b = m.once i in omega arith
        ];
        members = λ i l. elim (cases_eq x i) [
          | inl e ↦ subst Q e m.here
          | inr d ↦ let a = pos_stay met x i d in m.members i (omega arith)
        ];
        here = stays x m.here;
      }

  met_twice : (start : ℕ) (met : List ℕ) (x : ℕ) → Met next Q start met x → 1 ≤ pos met x → ComesRound next Q start (since x met)
  met_twice start met x m old =
      let s = split x met old in
      let e : s.before ++ since x met ≡ met = ap (λ (y : List ℕ). s.before ++ y) s.from_there ∙ sym s.is in
      record {
        round = record {
          lead = s.before;
          first = x;
          rest = s.after;
          is = s.from_there;
          from = first_met s.before s.after ∙ ap (head_or x) (sym s.is) ∙ m.from;
          leads = subst (λ (y : List ℕ). Leads (λ a b. b ≡ next a) y x) (sym e) m.leads;
          once = λ i. subst (λ (y : List ℕ). pos y i ≤ 1) (sym e) (m.once i);
        };
        members = λ i l. m.members i (subst (λ (y : List ℕ). 1 ≤ pos y i) e l);
      }
    where
      first_met : (u v : List ℕ) → head_or x u ≡ head_or x (u ++ (x ∷ v))
      first_met [] v = refl
      first_met (z ∷ u) v = refl

  walk : (n start : ℕ) (met : List ℕ) (x : ℕ) → Met next Q start met x → width < n + length met → ComesRound next Q start (walked next n met x)
  walk zero start met x m far = absurd (let l = once_short width met m.once (λ i h. bound i (m.members i h)) in omega arith)
  walk (suc n) start met x m far =
      elim (cases_Bool (among x met)) [
        | inl y ↦
            subst (ComesRound next Q start) (sym (walked_twice next n met x y)) (met_twice start met x m (among_listed x met y))
        | inr f ↦
            let longer = length_push met x in
            subst (ComesRound next Q start) (sym (walked_on next n met x f))
            (walk n start (met ++ (x ∷ [])) (next x) (met_more start met x m (not_listed x met f)) (omega arith))
      ]

  -- from a number in Q the walk comes round within width steps
  pub comes_round : (n x : ℕ) → width < n → Q x → ComesRound next Q x (walked next n [] x)
  comes_round n x far q =
      walk n x [] x (record { from = refl; leads = tt; once = λ i. omega arith; members = λ i l. absurd (omega arith); here = q }) (omega arith)

  pub comes_soon : (start : ℕ) (ring : List ℕ) (r : ComesRound next Q start ring) → length (r.round.lead ++ ring) ≤ width
  comes_soon start ring r = once_short width (r.round.lead ++ ring) r.round.once (λ i h. bound i (r.members i h))

  -- the ring's members are in Q, and there is one at least
  pub comes_member : (start : ℕ) (ring : List ℕ) → ComesRound next Q start ring → (k : ℕ) → k < length ring → Q (get_or ring k 0)
  comes_member start ring r k l = r.members (get_or ring k 0) (ring_listed r.round.lead ring k l)

  pub comes_length : (start : ℕ) (ring : List ℕ) → ComesRound next Q start ring → (1 ≤ length ring) × (length ring ≤ width)
  comes_length start ring r =
      let whole = comes_soon start ring r in
      let parts = length-append r.round.lead ring in
      let one = ap length r.round.is in
      (omega arith, omega arith)

-- of two lists related in turn from the same number on, where a number is related to one only, one begins the other
module _ (R : ℕ → ℕ → Type 0) (single : (a b c : ℕ) → R a b → R a c → b ≡ c) where
  data Compared (p : List ℕ) (f : ℕ) (q : List ℕ) (g : ℕ) : Type 0 where
    same : p ≡ q → f ≡ g → Compared p f q g
    shorter_than : (v : List ℕ) → q ≡ p ++ (f ∷ v) → Compared p f q g
    longer_than : (v : List ℕ) → p ≡ q ++ (g ∷ v) → Compared p f q g

  compared : (p : List ℕ) (f : ℕ) (q : List ℕ) (g : ℕ) → Leads R p f → Leads R q g → head_or f p ≡ head_or g q → Compared p f q g
  compared [] f [] g lp lq e = same refl e
  compared [] f (b ∷ q) g lp lq e = shorter_than q (ap (λ (z : ℕ). z ∷ q) (sym e))
  compared (a ∷ p) f [] g lp lq e = longer_than p (ap (λ (z : ℕ). z ∷ p) e)
  compared (a ∷ p) f (b ∷ q) g lp lq e =
      more (compared p f q g lp.1 lq.1 (single b (head_or f p) (head_or g q) (subst (λ (z : ℕ). R z (head_or f p)) e lp.0) lq.0))
    where
      more : Compared p f q g → Compared (a ∷ p) f (b ∷ q) g
      more (same s t) = same (ap (λ (z : List ℕ). a ∷ z) s ∙ ap (λ (z : ℕ). z ∷ q) e) t
      more (shorter_than v s) = shorter_than v (ap (λ (z : List ℕ). b ∷ z) s ∙ ap (λ (z : ℕ). z ∷ (p ++ (f ∷ v))) (sym e))
      more (longer_than v s) = longer_than v (ap (λ (z : List ℕ). a ∷ z) s ∙ ap (λ (z : ℕ). z ∷ (q ++ (g ∷ v))) e)

  -- no list with none twice goes on through one of its members
  not_through : (p : List ℕ) (f : ℕ) (q v : List ℕ) → 1 ≤ pos p f → ((i : ℕ) → pos q i ≤ 1) → q ≡ p ++ (f ∷ v) → ⊥
  not_through p f q v there once e =
      let o = once f in
      let a = ap (λ (z : List ℕ). pos z f) e in
      let b = pos_append p (f ∷ v) f in
      let c = cond-true {A = ℕ} (eqb f f) 1 0 (eq-eqb f f refl) in
      omega arith

  module _ (x : ℕ) where
    start : (p : List ℕ) (r : Round R x p) → head_or r.first (r.lead ++ p) ≡ x
    start p r = head_through r.lead ∙ r.from
      where
        head_through : (u : List ℕ) → head_or r.first (u ++ p) ≡ head_or r.first u
        head_through [] = ap (head_or r.first) r.is
        head_through (z ∷ u) = refl

    first_in : (p : List ℕ) (r : Round R x p) → (1 ≤ pos (r.lead ++ p) r.first) × (pos r.lead r.first ≡ 0)
    first_in p r =
        let a = pos_append r.lead p r.first in
        let b = ap (λ (z : List ℕ). pos z r.first) r.is in
        let c = cond-true {A = ℕ} (eqb r.first r.first) 1 0 (eq-eqb r.first r.first refl) in
        let o = r.once r.first in
        (omega arith, omega arith)

    ring_since : (p : List ℕ) (r : Round R x p) → since r.first (r.lead ++ p) ≡ p
    ring_since p r =
        ap (λ (z : List ℕ). since r.first (r.lead ++ z)) r.is ∙ since_here r.first r.lead r.rest (first_in p r).1 ∙ sym r.is

    module _ (p q : List ℕ) (r : Round R x p) (s : Round R x q) where
      one_path : (r.lead ++ p ≡ s.lead ++ q) × (r.first ≡ s.first)
      one_path = go (compared (r.lead ++ p) r.first (s.lead ++ q) s.first r.leads s.leads (start p r ∙ sym (start q s)))
        where
          go : Compared (r.lead ++ p) r.first (s.lead ++ q) s.first → (r.lead ++ p ≡ s.lead ++ q) × (r.first ≡ s.first)
          go (same e f) = (e, f)
          go (shorter_than v e) = absurd (not_through (r.lead ++ p) r.first (s.lead ++ q) v (first_in p r).0 s.once e)
          go (longer_than v e) = absurd (not_through (s.lead ++ q) s.first (r.lead ++ p) v (first_in q s).0 r.once e)

      -- the ring from a number on is the only one, and so is what leads to it
      pub one_round : p ≡ q
      one_round = sym (ring_since p r) ∙ ap (λ (z : ℕ). since z (r.lead ++ p)) one_path.1 ∙ ap (since s.first) one_path.0 ∙ ring_since q s

      pub one_lead : r.lead ≡ s.lead
      one_lead = append_cancel_right r.lead s.lead q (ap (λ (z : List ℕ). r.lead ++ z) (sym one_round) ∙ one_path.0)
