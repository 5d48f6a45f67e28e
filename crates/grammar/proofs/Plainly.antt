-- Each chart whose names are allowed is written by its plain text.
use Rattle.std.proofs.Common.{◌≡◌, ℕ, Bool, true, ◌&&◌, List, [], ◌∷◌, ◌++◌, map, flat_map, Some, None, Option, refl, sym, ap, ◌∙◌, subst, append_assoc, codes}
use Rattle.std.specs.List.{list_all}
use Rattle.std.proofs.lemmas.Bool.{and_parts, and_from}
use Rattle.std.proofs.lemmas.List.Folds.{list_all-append}
use Rattle.grammar.specs.Texts.{EventText, outputs, inputs, acts, InstanceText, ChartText}
use Rattle.grammar.specs.Pieces.{Piece, word, semicolon, peer_word, event_sentence, instance_sentences, chart_sentences, sentence_pieces}
use Rattle.grammar.specs.Spelling.{is_word, ends_word, Spells, nothing, then_semicolon, then_word}
use Rattle.grammar.specs.Writing.{names_of_peer, names_of_event, names_of_instance, names_of_chart}
use Rattle.grammar.specs.Plain.{plain_words, plain_sentences, EveryChart}

-- a space or a semicolon follows each word
ends : (ws : List (List ℕ)) (rest : List ℕ) → ends_word (plain_words ws ++ (59 ∷ rest)) ≡ true
ends [] rest = refl
ends (w ∷ ws) rest = refl

sentence_spelled : (ws : List (List ℕ)) (rest : List ℕ) (ps : List Piece) → list_all is_word ws ≡ true → Spells rest ps → Spells (plain_words ws ++ (59 ∷ rest)) (map word ws ++ (semicolon ∷ ps))
sentence_spelled [] rest ps h so = then_semicolon [] rest refl refl so
sentence_spelled (w ∷ ws) rest ps h so =
    let a = and_parts (is_word w) (list_all is_word ws) h in
    then_word (codes " ") w (plain_words ws ++ (59 ∷ rest)) (ap (λ (bs : List ℕ). 32 ∷ bs) (append_assoc w (plain_words ws) (59 ∷ rest))) refl a.0 (ends ws rest)
    (sentence_spelled ws rest ps a.1 so)

sentences_spelled : (vss : List (List (List ℕ))) → list_all (list_all is_word) vss ≡ true → Spells (plain_sentences vss) (flat_map sentence_pieces vss)
sentences_spelled [] h = nothing refl
sentences_spelled (ws ∷ vss) h =
    let a = and_parts (list_all is_word ws) (list_all (list_all is_word) vss) h in
    let so = sentence_spelled ws (plain_sentences vss) (flat_map sentence_pieces vss) a.0 (sentences_spelled vss a.1) in
    subst (Spells (plain_sentences (ws ∷ vss))) (sym (append_assoc (map word ws) (semicolon ∷ []) (flat_map sentence_pieces vss)))
    (subst (λ (text : List ℕ). Spells text (map word ws ++ (semicolon ∷ flat_map sentence_pieces vss))) (sym (append_assoc (plain_words ws) (59 ∷ []) (plain_sentences vss))) so)

-- where the names are words, all words are
peer_words : (p : Option (List ℕ)) → list_all is_word (names_of_peer p) ≡ true → list_all is_word (peer_word p ∷ []) ≡ true
peer_words None h = refl
peer_words (Some q) h = h

event_words : (x : EventText) → list_all is_word (names_of_event x) ≡ true → list_all is_word (event_sentence x) ≡ true
event_words (outputs m p) h = let a = and_parts (is_word m) (list_all is_word (names_of_peer p)) h in and_from (is_word m) (list_all is_word (peer_word p ∷ [])) a.0 (peer_words p a.1)
event_words (inputs m p) h = let a = and_parts (is_word m) (list_all is_word (names_of_peer p)) h in and_from (is_word m) (list_all is_word (peer_word p ∷ [])) a.0 (peer_words p a.1)
event_words (acts n) h = h

-- the parts of a list
both : {X : Type 0} (test : X → Bool) (xs ys : List X) → list_all test xs ≡ true → list_all test ys ≡ true → list_all test (xs ++ ys) ≡ true
both test xs ys a b = list_all-append test xs ys ∙ and_from (list_all test xs) (list_all test ys) a b

parts : {X : Type 0} (test : X → Bool) (xs ys : List X) → list_all test (xs ++ ys) ≡ true → (list_all test xs ≡ true) × (list_all test ys ≡ true)
parts test xs ys h = and_parts (list_all test xs) (list_all test ys) (sym (list_all-append test xs ys) ∙ h)

events_words : (es : List EventText) → list_all is_word (flat_map names_of_event es) ≡ true → list_all (list_all is_word) (map event_sentence es) ≡ true
events_words [] h = refl
events_words (x ∷ es) h =
    let a = parts is_word (names_of_event x) (flat_map names_of_event es) h in
    and_from (list_all is_word (event_sentence x)) (list_all (list_all is_word) (map event_sentence es)) (event_words x a.0) (events_words es a.1)

instance_words : (i : InstanceText) → list_all is_word (names_of_instance i) ≡ true → list_all (list_all is_word) (instance_sentences i) ≡ true
instance_words i h =
    let a = and_parts (is_word i.name) (list_all is_word (flat_map names_of_event i.events)) h in
    and_from (is_word i.name && true) (list_all (list_all is_word) (map event_sentence i.events ++ ((codes "endinstance" ∷ []) ∷ []))) (and_from (is_word i.name) true a.0 refl)
    (both (list_all is_word) (map event_sentence i.events) ((codes "endinstance" ∷ []) ∷ []) (events_words i.events a.1) refl)

instances_words : (is : List InstanceText) → list_all is_word (flat_map names_of_instance is) ≡ true → list_all (list_all is_word) (flat_map instance_sentences is) ≡ true
instances_words [] h = refl
instances_words (i ∷ is) h =
    let a = parts is_word (names_of_instance i) (flat_map names_of_instance is) h in
    both (list_all is_word) (instance_sentences i) (flat_map instance_sentences is) (instance_words i a.0) (instances_words is a.1)

chart_words : (c : ChartText) → list_all is_word (names_of_chart c) ≡ true → list_all (list_all is_word) (chart_sentences c) ≡ true
chart_words c h =
    let a = and_parts (is_word c.title) (list_all is_word (flat_map names_of_instance c.instances)) h in
    and_from (is_word c.title && true) (list_all (list_all is_word) (flat_map instance_sentences c.instances ++ ((codes "endmsc" ∷ []) ∷ []))) (and_from (is_word c.title) true a.0 refl)
    (both (list_all is_word) (flat_map instance_sentences c.instances) ((codes "endmsc" ∷ []) ∷ []) (instances_words c.instances a.1) refl)

-- the plain text of a chart writes it, where its names are words but none of the grammar
pub plain_writes : EveryChart
plain_writes c words named = record { spelled = sentences_spelled (chart_sentences c) (chart_words c words); named = named }
