-- A list of calls, a turn at a time.
use Rattle.std.proofs.Common.{◌≡◌, ℕ, ◌+◌, ◌<◌, ◌≤◌, List, [], ◌∷◌, ◌++◌, length, get_or, take, drop, set, Some, None, vec_items, Option, sym, refl, ap, ◌∙◌, subst, subst₂, inl, inr, add-zero, arith}
use Rattle.std.proofs.lemmas.List.{get_or-drop, drop-drop, drop-set-lt, take_more, take_more_set, take_all}
use Rattle.charts.specs.declared.parts.Event.{Event}
use Rattle.charts.specs.declared.faults.Fault.{Fault}
use Rattle.charts.specs.Lists.{size}
use Rattle.charts.specs.Sound.{Sound}
use Rattle.media.specs.Carry.{Carry}
use Rattle.orders.specs.May.{May}
use Rattle.orders.specs.Orders.{Order}
use Rattle.orders.specs.Drives.{Least}
use Rattle.orders.specs.Deciding.{may_now_at}
use Rattle.orders.specs.Driving.{driven}
use Rattle.orders.specs.Histories.{pos}
use Rattle.orders.proofs.Growing.{steps_none, steps_push}
use Rattle.orders.proofs.Onwards.{onwards_weaker, onwards_steps}
use Rattle.orders.proofs.Verdicts.{drives_only, driven_full}
use Rattle.rules.specs.declared.row.Row.{Row}
use Rattle.runs.specs.declared.calls.Call.{Call}
use Rattle.runs.specs.declared.calls.Call.TheVariants.{Step, Drive, Restart, Judge, Latest}
use Rattle.runs.specs.declared.calls.Answer.{Answer}
use Rattle.runs.specs.declared.calls.Turn.{Turn}
use Rattle.runs.specs.Answers.{Answers}
use Rattle.runs.specs.Histories.{After}
use Rattle.runs.specs.Stands.{Stands}
use Rattle.runs.specs.Made.{Makes}
use Rattle.runs.specs.Replays.{TurnMade, StartsFull, Replayed}

module _ (M : Carry) (L : List (List Event)) (sound : Sound L) where
  -- there is one history after a call
  after_one : (t : Option Fault) (h : List ℕ) (call : Call) (room : ℕ) (g k : List ℕ) → After t M L h call room g → After t M L h call room k → k ≡ g
  after_one (Some f) h call room g k a b = b ∙ sym a
  after_one None h (Step i) room g k (inl a) (inl b) = b.1 ∙ sym a.1
  after_one None h (Step i) room g k (inl a) (inr b) = absurd (b.0 a.0)
  after_one None h (Step i) room g k (inr a) (inl b) = absurd (a.0 b.0)
  after_one None h (Step i) room g k (inr a) (inr b) = b.1 ∙ sym a.1
  after_one None h (Drive n) room g k (inl a) (inl b) =
      b.1.2 ∙ ap (λ (w : List ℕ). h ++ w) (drives_only M L sound h n b.1.0 b.1.1 ∙ sym (drives_only M L sound h n a.1.0 a.1.1)) ∙ sym a.1.2
  after_one None h (Drive n) room g k (inl a) (inr b) = absurd (let x = a.0 in let y = b.0 in omega arith)
  after_one None h (Drive n) room g k (inr a) (inl b) = absurd (let x = a.0 in let y = b.0 in omega arith)
  after_one None h (Drive n) room g k (inr a) (inr b) = b.1 ∙ sym a.1
  after_one None h Restart room g k a b = b ∙ sym a
  after_one None h Judge room g k a b = b ∙ sym a
  after_one None h (Latest i j) room g k a b = b ∙ sym a

  -- and it is an order
  after_order : (t : Option Fault) (h : List ℕ) (call : Call) (room : ℕ) (g : List ℕ) → Order M L h → After t M L h call room g → Order M L g
  after_order (Some f) h call room g o a = subst (Order M L) (sym a) o
  after_order None h (Step i) room g o (inl a) = subst (Order M L) (sym a.1) (steps_push (May M L) h i o a.0)
  after_order None h (Step i) room g o (inr a) = subst (Order M L) (sym a.1) o
  after_order None h (Drive n) room g o (inl a) =
      subst (Order M L) (sym a.1.2) (onwards_steps (May M L) h a.1.0 o (onwards_weaker (Least (May M L)) (May M L) (λ u i l. l.can) h a.1.0 a.1.1.lowest))
  after_order None h (Drive n) room g o (inr a) = subst (Order M L) (sym a.1) o
  after_order None h Restart room g o a = subst (Order M L) (sym a) (steps_none (May M L))
  after_order None h Judge room g o a = subst (Order M L) (sym a) o
  after_order None h (Latest i j) room g o a = subst (Order M L) (sym a) o

  starts_full : (h : List ℕ) → Order M L h → StartsFull M L h
  starts_full h order =
      record {
        order = order;
        goes_on = λ f full. (driven (may_now_at M L) (length L) (size L) (pos h), driven_full M L sound h order (size L) (omega arith) f full);
      }

  turn_made : (t : Option Fault) (h : List ℕ) (x y : Turn) (rows : List Row) → Order M L h → (m : Makes t M L h x y rows) → TurnMade t M L h x y m.made.next
  turn_made t h x y rows order m =
      let room = length (vec_items x.buffer) in
      record {
        starts = starts_full h order;
        call = m.call;
        room = m.room;
        answered = subst (λ (a : Option Answer). Answers t M L h x.call (vec_items x.buffer) a (vec_items y.buffer)) (sym m.noted) m.made.answered;
        history = m.made.history;
        only = λ k a. after_one t h x.call room m.made.next k m.made.history a;
      }

  -- one turn more
  replayed_push : (t : Option Fault) (h : List ℕ) (xs ys : List Turn) (g : List ℕ) (x y : Turn) (k : List ℕ) → Replayed t M L h xs ys g → TurnMade t M L g x y k → Order M L k →
      Replayed t M L h (xs ++ (x ∷ [])) (ys ++ (y ∷ [])) k
  replayed_push t h [] [] g x y k r m o = (k, subst (λ (z : List ℕ). TurnMade t M L z x y k) r.0 m, (refl, starts_full k o))
  replayed_push t h [] (y' ∷ ys) g x y k r m o = absurd r
  replayed_push t h (x' ∷ xs) [] g x y k r m o = absurd r
  replayed_push t h (x' ∷ xs) (y' ∷ ys) g x y k r m o = (r.0, r.1, replayed_push t r.0 xs ys g x y k r.2 m o)

  -- after k turns
  pub record Progress (t : Option Fault) (k : ℕ) (before now : List Turn) (rows : List Row) : Type 0 where
    pub history : List ℕ
    pub order : Order M L history
    pub replayed : Replayed t M L [] (take k before) (take k now) history
    pub stands : Stands rows history
    pub rest : drop k now ≡ drop k before

  pub progress_none : (t : Option Fault) (turns : List Turn) (rows : List Row) → Stands rows [] → Progress t 0 turns turns rows
  progress_none t turns rows s = record { history = []; order = steps_none (May M L); replayed = (refl, starts_full [] (steps_none (May M L))); stands = s; rest = refl }

  same_there : (k : ℕ) (before now : List Turn) (x : Turn) → drop k now ≡ drop k before → get_or now k x ≡ get_or before k x
  same_there k before now x e = sym (at_drop k now x) ∙ ap (λ (zs : List Turn). get_or zs 0 x) e ∙ at_drop k before x
    where
      at_drop : (k : ℕ) (zs : List Turn) (x : Turn) → get_or (drop k zs) 0 x ≡ get_or zs k x
      at_drop k zs x = get_or-drop k zs 0 x ∙ ap (λ (n : ℕ). get_or zs n x) (add-zero k)

  drop_one : (k : ℕ) (zs : List Turn) → drop (k + 1) zs ≡ drop 1 (drop k zs)
  drop_one k zs = sym (drop-drop 1 k zs)

  pub progress_more : (t : Option Fault) (k : ℕ) (before now : List Turn) (rows after : List Row) (x y : Turn) → Progress t k before now rows → k < length now → length now ≡ length before →
      x ≡ get_or now k x → ((h : List ℕ) → Stands rows h → Makes t M L h x y after) → Progress t (k + 1) before (set now k y) after
  progress_more t k before now rows after x y p l long is makes =
      let m = makes p.history p.stands in
      let made = turn_made t p.history x y after p.order m in
      let here : take (k + 1) before ≡ take k before ++ (x ∷ []) =
      take_more before k x (omega arith) ∙ ap (λ (z : Turn). take k before ++ (z ∷ [])) (sym (is ∙ same_there k before now x p.rest)) in
      record {
        history = m.made.next;
        order = after_order t p.history x.call (length (vec_items x.buffer)) m.made.next p.order m.made.history;
        replayed =
            subst₂ (λ (xs ys : List Turn). Replayed t M L [] xs ys m.made.next) (sym here) (sym (take_more_set now k y l))
            (replayed_push t [] (take k before) (take k now) p.history x y m.made.next p.replayed made (after_order t p.history x.call (length (vec_items x.buffer)) m.made.next p.order m.made.history));
        stands = m.made.stands;
        rest = drop-set-lt (k + 1) now k y (omega arith) ∙ drop_one k now ∙ ap (drop 1) p.rest ∙ sym (drop_one k before);
      }

  pub progress_all : (t : Option Fault) (k : ℕ) (before now : List Turn) (rows : List Row) → Progress t k before now rows → length before ≤ k → length now ≤ k → (g : List ℕ) × Replayed t M L [] before now g
  progress_all t k before now rows p a b =
      (p.history, subst₂ (λ (xs ys : List Turn). Replayed t M L [] xs ys p.history) (take_all k before a) (take_all k now b) p.replayed)
