-- Sentences word by word, and the pieces in them.
use Rattle.std.proofs.Common.{◌≡◌, ℕ, true, List, [], ◌∷◌, ◌++◌, map, flat_map, Ok, refl, sym, ap, ap₂, ◌∙◌, append_assoc}
use Rattle.words.specs.Sentences.{Placed, Sentence, Ending, semicolon as ends_at, text_end, fault}
use Rattle.words.specs.Reading.{first}
use Rattle.items.specs.Items.{nothing_in}
use Rattle.grammar.specs.Pieces.{Piece, word, semicolon, sentence_pieces}
use Rattle.grammar.proofs.Lists.{whole_by, whole, pieces_by, pieces_in, bytes_of, Lexed}

-- a sentence has these words and ends in a semicolon
pub record Sentenced (ws : List Placed) (e : Ending) (vs : List (List ℕ)) : Type 0 where
  pub words : bytes_of ws ≡ vs
  pub at : ℕ
  pub ending : e ≡ ends_at at

-- the sentences are of these words, and nothing stands after them
abbrev pub Says : List Sentence → List (List (List ℕ)) → Type 0
Says ss [] = nothing_in (first ss).words (first ss).ending ≡ Ok tt
Says [] (vs ∷ vss) = ⊥
Says (s ∷ ss) (vs ∷ vss) = Sentenced s.words s.ending vs × Says ss vss

nothing_lexed : (ws : List Placed) (e : Ending) (ss : List Sentence) → nothing_in ws e ≡ Ok tt → Lexed (record { words = ws; ending = e } ∷ ss) []
nothing_lexed [] (ends_at n) ss h = cc
nothing_lexed [] (text_end n) ss h = record { whole = refl; pieces = refl }
nothing_lexed [] (fault c n) ss h = cc
nothing_lexed (w ∷ ws) e ss h = cc

-- sentences of words have the words and semicolons as their pieces
pub says_lexed : (ss : List Sentence) (vss : List (List (List ℕ))) → Says ss vss → Lexed ss (flat_map sentence_pieces vss)
says_lexed [] [] h = record { whole = refl; pieces = refl }
says_lexed (s ∷ ss) [] h = nothing_lexed s.words s.ending ss h
says_lexed [] (vs ∷ vss) h = absurd h
says_lexed (s ∷ ss) (vs ∷ vss) h =
    let one = h.0 in
    let l = says_lexed ss vss h.1 in
    record {
      whole = ap (λ (e : Ending). whole_by e (whole ss)) one.ending ∙ l.whole;
      pieces =
          ap₂ (λ (us : List (List ℕ)) (e : Ending). map word us ++ pieces_by e (pieces_in ss)) one.words one.ending ∙ ap (λ (ps : List Piece). map word vs ++ (semicolon ∷ ps)) l.pieces
          ∙ sym (append_assoc (map word vs) (semicolon ∷ []) (flat_map sentence_pieces vss));
    }

-- a sentence whose pieces come first
pub record Split (ws : List Placed) (e : Ending) (ss : List Sentence) (vs : List (List ℕ)) (ps : List Piece) : Type 0 where
  pub one : Sentenced ws e vs
  pub lexed : Lexed ss ps

split : (ws : List Placed) (e : Ending) (ss : List Sentence) (vs : List (List ℕ)) (ps : List Piece) → whole_by e (whole ss) ≡ true →
    map word (bytes_of ws) ++ pieces_by e (pieces_in ss) ≡ map word vs ++ (semicolon ∷ ps) → Split ws e ss vs ps
split [] (ends_at n) ss [] ps h is = record { one = record { words = refl; at = n; ending = refl }; lexed = record { whole = h; pieces = cc } }
split [] (text_end n) ss [] ps h is = cc
split [] (fault c n) ss [] ps h is = cc
split [] (ends_at n) ss (v ∷ vs) ps h is = cc
split [] (text_end n) ss (v ∷ vs) ps h is = cc
split [] (fault c n) ss (v ∷ vs) ps h is = cc
split (w ∷ ws) e ss [] ps h is = cc
split (w ∷ ws) e ss (v ∷ vs) ps h is =
    let r = split ws e ss vs ps h (cc) in
    let same : w.bytes ≡ v = cc in
    record { one = record { words = ap₂ (λ (b : List ℕ) (bs : List (List ℕ)). b ∷ bs) same r.one.words; at = r.one.at; ending = r.one.ending }; lexed = r.lexed }

none_left : (ws : List Placed) (e : Ending) (b : List Sentence) → whole_by e (whole b) ≡ true → map word (bytes_of ws) ++ pieces_by e (pieces_in b) ≡ [] → nothing_in ws e ≡ Ok tt
none_left [] (ends_at n) b h is = cc
none_left [] (text_end n) b h is = refl
none_left [] (fault c n) b h is = cc
none_left (w ∷ ws) e b h is = cc

-- and the other way round
pub lexed_says : (vss : List (List (List ℕ))) (ss : List Sentence) → Lexed ss (flat_map sentence_pieces vss) → Says ss vss
lexed_says [] [] l = refl
lexed_says [] (s ∷ ss) l = none_left s.words s.ending ss l.whole l.pieces
lexed_says (vs ∷ vss) [] l = go vs (l.pieces ∙ append_assoc (map word vs) (semicolon ∷ []) (flat_map sentence_pieces vss))
  where
    go : (us : List (List ℕ)) → [] ≡ map word us ++ (semicolon ∷ flat_map sentence_pieces vss) → ⊥
    go [] is = cc
    go (u ∷ us) is = cc
lexed_says (vs ∷ vss) (s ∷ ss) l =
    let r = split s.words s.ending ss vs (flat_map sentence_pieces vss) l.whole (l.pieces ∙ append_assoc (map word vs) (semicolon ∷ []) (flat_map sentence_pieces vss)) in
    (r.one, lexed_says vss ss r.lexed)
