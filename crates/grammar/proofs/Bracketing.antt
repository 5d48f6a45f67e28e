-- The items of a text that is not refused are those of whole instances.
use Rattle.std.proofs.Common.{◌≡◌, Bool, true, false, cond, List, [], ◌∷◌, ◌++◌, map, Ok, Err, Result, refl, ap}
use Rattle.std.specs.List.{flat_map}
use Rattle.std.specs.Prelude.{codes}
use Rattle.std.specs.Str.{bytes_eq}
use Rattle.words.specs.declared.faults.Cause.TheVariants.{WrongWord}
use Rattle.words.specs.declared.faults.Fault.{Fault}
use Rattle.words.specs.Sentences.{Placed, Sentence, Ending}
use Rattle.sentences.specs.Wants.{at_byte, closed, reserved}
use Rattle.sentences.specs.Events.{EventWords, event_in}
use Rattle.items.specs.Items.{Item, Items, instance_named, event, instance_ends, refused, with_item, if_closed, if_event, heading, outside_by, inside_by, finished, items_from}
use Rattle.items.specs.Instances.{events_before, instances_in}
use Rattle.items.specs.Surveys.{names_in}
use Rattle.grammar.specs.Brackets.{bracketed, events_of}

-- where the text is not refused, the items are bracketed
abbrev pub Bracketed : Bool → Items → Type 0
Bracketed inside is = is.outcome ≡ Ok tt → bracketed inside is.items ≡ true

refused_none : (inside : Bool) (f : Fault) → Bracketed inside (refused f)
refused_none inside f is = cc

after_closed : (inside : Bool) (r : Result (List Placed) Fault) (is : Items) → Bracketed inside is → Bracketed inside (if_closed r is)
after_closed inside (Ok ws) is h = h
after_closed inside (Err f) is h = refused_none inside f

after_event : (r : Result EventWords Fault) (is : Items) → Bracketed true is → Bracketed true (if_event r is)
after_event (Ok e) is h = h
after_event (Err f) is h = refused_none true f

either : (inside b : Bool) (x y : Items) → Bracketed inside x → Bracketed inside y → Bracketed inside (cond b x y)
either inside true x y hx hy = hx
either inside false x y hx hy = hy

after_heading : (ws : List Placed) (e : Ending) (inside : Items) → Bracketed true inside → Bracketed false (heading ws e inside)
after_heading [] e inside h = refused_none false _
after_heading (n ∷ ws) e inside h =
    either false (reserved n.bytes) (refused (at_byte WrongWord n.start)) (with_item (instance_named n) (if_closed (closed ws e) inside)) (refused_none false _)
    (after_closed true (closed ws e) inside h)

after_inside : (ws : List Placed) (e : Ending) (inside outside : Items) → Bracketed true inside → Bracketed false outside → Bracketed true (inside_by ws e inside outside)
after_inside [] e inside outside h k = refused_none true _
after_inside (v ∷ ws) e inside outside h k =
    either true (bytes_eq v.bytes (codes "endinstance")) (if_closed (closed ws e) (with_item instance_ends outside)) (if_event (event_in v (record { words = ws; ending = e })) inside)
    (after_closed true (closed ws e) (with_item instance_ends outside) k)
    (after_event (event_in v (record { words = ws; ending = e })) inside h)

after_outside : (ws : List Placed) (e : Ending) (inside end : Items) → Bracketed true inside → Bracketed false end → Bracketed false (outside_by ws e inside end)
after_outside [] e inside end h k = refused_none false _
after_outside (v ∷ ws) e inside end h k =
    either false (bytes_eq v.bytes (codes "instance")) (heading ws e inside) (cond (bytes_eq v.bytes (codes "endmsc")) (if_closed (closed ws e) end) (refused (at_byte WrongWord v.start)))
    (after_heading ws e inside h)
    (either false (bytes_eq v.bytes (codes "endmsc")) (if_closed (closed ws e) end) (refused (at_byte WrongWord v.start)) (after_closed false (closed ws e) end k) (refused_none false _))

-- the items of sentences, inside an instance and between instances
pub items_bracketed : (inside : Bool) (ss : List Sentence) → (items_from inside ss).outcome ≡ Ok tt → bracketed inside (items_from inside ss).items ≡ true
items_bracketed inside [] = refused_none inside _
items_bracketed true (s ∷ ss) = after_inside s.words s.ending (items_from true ss) (items_from false ss) (items_bracketed true ss) (items_bracketed false ss)
items_bracketed false (s ∷ ss) = after_outside s.words s.ending (items_from true ss) (finished ss) (items_bracketed true ss) (λ is. refl)

-- those left of an instance that has begun stand before the others
events_left : (inside : Bool) (is : List Item) → bracketed inside is ≡ true → cond inside (events_before is) [] ++ flat_map (λ i. i.events) (instances_in is) ≡ events_of is
events_left true [] h = cc
events_left true (instance_named n ∷ is) h = cc
events_left true (event e ∷ is) h = ap (λ (es : List EventWords). e ∷ es) (events_left true is h)
events_left true (instance_ends ∷ is) h = events_left false is h
events_left false [] h = refl
events_left false (instance_named n ∷ is) h = events_left true is h
events_left false (event e ∷ is) h = cc
events_left false (instance_ends ∷ is) h = cc

-- the events of the instances are all events, in their order
pub bracketed_events : (is : List Item) → bracketed false is ≡ true → flat_map (λ i. i.events) (instances_in is) ≡ events_of is
bracketed_events is h = events_left false is h

-- the names of the instances are those that are named
pub instance_names : (is : List Item) → map (λ i. i.name) (instances_in is) ≡ names_in is
instance_names [] = refl
instance_names (instance_named n ∷ is) = ap (λ (ns : List Placed). n ∷ ns) (instance_names is)
instance_names (event e ∷ is) = instance_names is
instance_names (instance_ends ∷ is) = instance_names is
