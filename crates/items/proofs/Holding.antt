-- A tally of one item more.
use Rattle.std.proofs.Common.{◌≡◌, ◌+◌, ◌≤◌, false, List, [], ◌∷◌, ◌++◌, length, Ok, refl, sym, ap, ◌∙◌, subst, arith}
use Rattle.std.proofs.lemmas.List.{length_push, append-nil}
use Rattle.names.specs.Numbers.{Numbers}
use Rattle.words.specs.declared.parts.Word.{Word}
use Rattle.sentences.specs.declared.parts.EventText.{EventText}
use Rattle.words.specs.Sentences.{Placed}
use Rattle.words.specs.Reading.{placed}
use Rattle.sentences.specs.Wants.{among}
use Rattle.sentences.specs.Events.{EventWords, event_words}
use Rattle.items.specs.declared.parts.Item.{Item as Read}
use Rattle.items.specs.declared.parts.Item.TheVariants.{Instance, Event, InstanceEnd}
use Rattle.items.specs.declared.tally.Tally.{Tally}
use Rattle.items.specs.Items.{Item, instance_named, event, instance_ends}
use Rattle.items.specs.Surveys.{names_in, events_in}
use Rattle.items.specs.Known.{Knows}
use Rattle.items.specs.Tallies.{Holds, Takes}
use Rattle.items.proofs.Passing.{names_append}

pub names_few : (is : List Item) → length (names_in is) ≤ length is
names_few [] = omega arith
names_few (instance_named n ∷ is) = let h = names_few is in omega arith
names_few (event e ∷ is) = let h = names_few is in omega arith
names_few (instance_ends ∷ is) = let h = names_few is in omega arith

pub events_few : (is : List Item) → events_in is ≤ length is
events_few [] = omega arith
events_few (instance_named n ∷ is) = let h = events_few is in omega arith
events_few (event e ∷ is) = let h = events_few is in omega arith
events_few (instance_ends ∷ is) = let h = events_few is in omega arith

events_push : (is : List Item) (i : Item) → events_in (is ++ (i ∷ [])) ≡ events_in is + events_in (i ∷ [])
events_push [] i = omega arith
events_push (instance_named n ∷ is) i = events_push is i
events_push (event e ∷ is) i = let h = events_push is i in omega arith
events_push (instance_ends ∷ is) i = events_push is i

-- an instance, whose name is known from now on
pub held_instance : (t u : Tally) (done : List Item) (n : Placed) → Holds t done → Knows u.names (names_in done ++ (n ∷ [])) → u.read ≡ t.read + 1 → u.instances ≡ t.instances + 1 → u.events ≡ t.events →
    Holds u (done ++ (instance_named n ∷ []))
held_instance t u done n h k r i e =
    let a = names_append done (instance_named n ∷ []) in
    record {
      knows = subst (Knows u.names) (sym a) k;
      read = let x = h.read in let l = length_push done (instance_named n) in omega arith;
      instances = let x = h.instances in let l = length_push (names_in done) n in let y = ap length a in omega arith;
      events = let x = h.events in let l = events_push done (instance_named n) in omega arith;
    }

-- an event
pub held_event : (t u : Tally) (done : List Item) (x : EventWords) → Holds t done → u.names ≡ t.names → u.read ≡ t.read + 1 → u.instances ≡ t.instances → u.events ≡ t.events + 1 →
    Holds u (done ++ (event x ∷ []))
held_event t u done x h k r i e =
    let a = names_append done (event x ∷ []) ∙ append-nil (names_in done) in
    record {
      knows = subst (Knows u.names) (sym a) (subst (λ (z : Numbers). Knows z (names_in done)) (sym k) h.knows);
      read = let y = h.read in let l = length_push done (event x) in omega arith;
      instances = let y = h.instances in let z = ap length a in omega arith;
      events = let y = h.events in let l = events_push done (event x) in omega arith;
    }

-- the end of an instance
pub held_end : (t u : Tally) (done : List Item) → Holds t done → u.names ≡ t.names → u.read ≡ t.read + 1 → u.instances ≡ t.instances → u.events ≡ t.events →
    Holds u (done ++ (instance_ends ∷ []))
held_end t u done h k r i e =
    let a = names_append done (instance_ends ∷ []) ∙ append-nil (names_in done) in
    record {
      knows = subst (Knows u.names) (sym a) (subst (λ (z : Numbers). Knows z (names_in done)) (sym k) h.knows);
      read = let y = h.read in let l = length_push done instance_ends in omega arith;
      instances = let y = h.instances in let z = ap length a in omega arith;
      events = let y = h.events in let l = events_push done instance_ends in omega arith;
    }

-- the same, by the item that was read
module _ (t u : Tally) (done : List Item) (item : Read) (h : Holds t done) (read : u.read ≡ t.read + 1) where
  pub took_instance : (w : Word) → item ≡ Instance w → among (names_in done) w.bytes.now ≡ false → Knows u.names (names_in done ++ (placed w ∷ [])) →
      u.instances ≡ t.instances + 1 → u.events ≡ t.events → Takes done item (Ok tt) u
  took_instance w is fresh k i e = subst (λ (x : Read). Takes done x (Ok tt) u) (sym is) (fresh, held_instance t u done (placed w) h k read i e)

  pub took_event : (e : EventText) → item ≡ Event e → u.names ≡ t.names → u.instances ≡ t.instances → u.events ≡ t.events + 1 → Takes done item (Ok tt) u
  took_event x is k i e = subst (λ (z : Read). Takes done z (Ok tt) u) (sym is) (refl, held_event t u done (event_words x) h k read i e)

  pub took_end : item ≡ InstanceEnd → u.names ≡ t.names → u.instances ≡ t.instances → u.events ≡ t.events → Takes done item (Ok tt) u
  took_end is k i e = subst (λ (z : Read). Takes done z (Ok tt) u) (sym is) (refl, held_end t u done h k read i e)
