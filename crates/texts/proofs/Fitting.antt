-- Every chart that keeps the rules has room in the greatest tables.
use Rattle.std.proofs.Common.{◌≡◌, ℕ, ◌+◌, ◌≤◌, Bool, true, false, cond, List, [], ◌∷◌, ◌++◌, length, map, fold, flat_map, Err, inl, inr, refl, arith}
use Rattle.std.proofs.lemmas.List.{length-append, length-map}
use Rattle.std.proofs.lemmas.List.Sums.{sum_by-cons}
use Rattle.charts.specs.declared.parts.Event.{Event}
use Rattle.charts.specs.Lists.{size}
use Rattle.words.specs.declared.faults.Fault.{Fault}
use Rattle.words.specs.Sentences.{sentences}
use Rattle.grammar.specs.Texts.{EventText, outputs, inputs, acts, InstanceText, ChartText}
use Rattle.texts.specs.Names.{has, with_name, message_of, action_of, events_in, instance_names}
use Rattle.texts.specs.Charted.{event_in, lists_of}
use Rattle.texts.specs.Static.{Static}
use Rattle.texts.specs.Takes.{TooShortFor}
use Rattle.texts.specs.Readings.{read_as, greatest}
use Rattle.texts.specs.FirstFault.{FirstFault}
use Rattle.texts.proofs.Taking.{takes_err}

-- as many events as the text has
pub size_said : (f : EventText → Event) (ns : List InstanceText) → size (map (λ (m : InstanceText). map f m.events) ns) ≡ length (flat_map (λ (m : InstanceText). m.events) ns)
size_said f [] = refl
size_said f (n ∷ ns) =
    let a = sum_by-cons length (map f n.events) (map (λ (m : InstanceText). map f m.events) ns) in
    let b = length-map n.events f in
    let c = size_said f ns in
    let d = length-append n.events (flat_map (λ (m : InstanceText). m.events) ns) in
    omega arith

fold_few : (s ns : List (List ℕ)) → length (fold with_name s ns) ≤ length s + length ns
fold_few s [] = omega arith
fold_few s (n ∷ ns) = let a = fold_few (with_name s n) ns in let b = go (has s n) in omega arith
  where
    go : (b : Bool) → length (cond b s (s ++ (n ∷ []))) ≤ length s + 1
    go true = omega arith
    go false = let a = length-append s (n ∷ []) in omega arith

flat_few : (f : EventText → List (List ℕ)) → ((e : EventText) → length (f e) ≤ 1) → (es : List EventText) → length (flat_map f es) ≤ length es
flat_few f one [] = omega arith
flat_few f one (e ∷ es) = let a = one e in let b = flat_few f one es in let c = length-append (f e) (flat_map f es) in omega arith

one_message : (e : EventText) → length (message_of e) ≤ 1
one_message (outputs m p) = omega arith
one_message (inputs m p) = omega arith
one_message (acts n) = omega arith

one_action : (e : EventText) → length (action_of e) ≤ 1
one_action (outputs m p) = omega arith
one_action (inputs m p) = omega arith
one_action (acts n) = omega arith

room_enough : (c : ChartText) → Static c → TooShortFor greatest c → ⊥
room_enough c k short =
    let i = k.sound.few_instances in
    let e = k.sound.few_events in
    let n : length (lists_of c) ≡ length c.instances = length-map c.instances _ in
    let m : length (instance_names c) ≡ length c.instances = length-map c.instances (λ (x : InstanceText). x.name) in
    let s : size (lists_of c) ≡ length (events_in c) = size_said (event_in c) c.instances in
    elim short [
      | inl x ↦ omega arith
      | inr y ↦ elim y [
        | inl x ↦ omega arith
        | inr z ↦ elim z [
          | inl x ↦ omega arith
          | inr u ↦ elim u [
            | inl x ↦ let a = fold_few [] (flat_map message_of (events_in c)) in let b = flat_few message_of one_message (events_in c) in omega arith
            | inr x ↦ let a = fold_few [] (flat_map action_of (events_in c)) in let b = flat_few action_of one_action (events_in c) in omega arith
          ]
        ]
      ]
    ]

-- so a text that is refused by them writes none
pub first_fault : (text : List ℕ) (f : Fault) → read_as greatest (sentences text) ≡ Err f → FirstFault text f
first_fault text f reads = record { unwritten = λ c w k. room_enough c k (takes_err text greatest f reads c w k).1; first = reads }
