-- The text on the lines of a text that were read.
use Rattle.std.proofs.Common.{◌≡◌, ℕ, ◌+◌, ◌<◌, ◌≤◌, Bool, true, false, cond, inl, inr, ◌⊎◌, List, [], ◌∷◌, ◌++◌, length, take, IfOk, Ok, Err, Result, refl, sym, ap, ◌∙◌, subst, arith, append_assoc, append-nil, length-append, codes}
use Rattle.std.specs.List.{join_with_byte}
use Rattle.std.specs.Str.{bytes_eq}
use Rattle.std.proofs.lemmas.List.{take-append-le}
use Rattle.std.proofs.Math.Seq.{take-append_seam}
use Rattle.std.proofs.lemmas.List.Splits.{join_with_byte-slice_split}
use Rattle.tabletexts.specs.Pieces.{pieces}
use Rattle.piletexts.specs.Blocks.{UpTo, up_to, line_before, text_until}
use Rattle.piletexts.specs.Lines.{closed, lines_of}

-- lines, each with a line feed behind it
abbrev pub fed : List (List ℕ) → List ℕ
fed [] = []
fed (l ∷ ls) = l ++ (10 ∷ fed ls)

fed_append : (xs ys : List (List ℕ)) → fed (xs ++ ys) ≡ fed xs ++ fed ys
fed_append [] ys = refl
fed_append (x ∷ xs) ys = ap (λ (bs : List ℕ). x ++ (10 ∷ bs)) (fed_append xs ys) ∙ sym (append_assoc x (10 ∷ fed xs) (fed ys))

-- the lines with their line feeds are the text, but for the last line feed, which it may lack
abbrev Closes : List ℕ → List ℕ → Type 0
Closes lines text = (lines ≡ text) ⊎ (lines ≡ text ++ (10 ∷ []))

closes_before : (p lines text : List ℕ) → Closes lines text → Closes (p ++ (10 ∷ lines)) (p ++ (10 ∷ text))
closes_before p lines text (inl e) = inl (ap (λ (bs : List ℕ). p ++ (10 ∷ bs)) e)
closes_before p lines text (inr e) = inr (ap (λ (bs : List ℕ). p ++ (10 ∷ bs)) e ∙ sym (append_assoc p (10 ∷ text) (10 ∷ [])))

pieces_close : (ps : List (List ℕ)) → Closes (fed (closed ps)) (join_with_byte 10 ps)
pieces_close [] = inl refl
pieces_close ([] ∷ []) = inl refl
pieces_close ((b ∷ bs) ∷ []) = inr refl
pieces_close (p ∷ q ∷ ps) = closes_before p (fed (closed (q ∷ ps))) (join_with_byte 10 (q ∷ ps)) (pieces_close (q ∷ ps))

lines_close : (text : List ℕ) → Closes (fed (lines_of text)) text
lines_close text = subst (λ (t : List ℕ). Closes (fed (lines_of text)) t) (join_with_byte-slice_split 10 text) (pieces_close (pieces 10 text))

-- the text begins with those of its lines behind which another stands
begins : (text xs ys : List ℕ) → 0 < length ys → Closes (xs ++ ys) text → (length xs ≤ length text) × (take (length xs) text ≡ xs)
begins text xs ys some (inl e) = (
  (let l = ap length e in let a = length-append xs ys in omega arith),
  ap (λ (t : List ℕ). take (length xs) t) (sym e) ∙ take-append_seam xs ys,
)
begins text xs ys some (inr e) =
    let few : length xs ≤ length text = (let l = ap length e in let a = length-append xs ys in let b = length-append text (10 ∷ []) in omega arith) in
    (few, sym (take-append-le (length xs) text (10 ∷ []) few) ∙ ap (λ (t : List ℕ). take (length xs) t) (sym e) ∙ take-append_seam xs ys)

-- texts before the text that is found
abbrev pub before : List ℕ → Result (UpTo (List ℕ)) ℕ → Result (UpTo (List ℕ)) ℕ
before bs (Err n) = Err n
before bs (Ok u) = Ok (up_to (bs ++ u.found) u.number u.behind)

before_line : (bs l : List ℕ) (r : Result (UpTo (List ℕ)) ℕ) → before bs (line_before l r) ≡ before (bs ++ (l ++ (10 ∷ []))) r
before_line bs l (Err n) = refl
before_line bs l (Ok u) =
    ap (λ (t : List ℕ). Ok (up_to t u.number u.behind)) (ap (λ (t : List ℕ). bs ++ t) (sym (append_assoc l (10 ∷ []) u.found)) ∙ sym (append_assoc bs (l ++ (10 ∷ [])) u.found))

before_nothing : (r : Result (UpTo (List ℕ)) ℕ) → before [] r ≡ r
before_nothing (Err n) = refl
before_nothing (Ok u) = refl

-- lines of this length were read off the text, n of them before it, and the lines that are left tell the rest
pub record Fed (text : List ℕ) (n size m : ℕ) (rest : List (List ℕ)) : Type 0 where
  pub lines : List (List ℕ)
  pub cut : lines_of text ≡ lines ++ rest
  pub long : size ≡ length (fed lines)
  pub same : before (fed lines) (text_until m rest) ≡ text_until n (lines_of text)

pub fed_none : (text : List ℕ) (n : ℕ) → Fed text n 0 n (lines_of text)
fed_none text n = record { lines = []; cut = refl; long = refl; same = before_nothing (text_until n (lines_of text)) }

fed_long : (text : List ℕ) (xs ys : List (List ℕ)) → lines_of text ≡ xs ++ ys → length (fed xs) ≤ length text + 1
fed_long text xs ys e =
    let a = ap length (ap fed e ∙ fed_append xs ys) in
    let b = length-append (fed xs) (fed ys) in
    elim (lines_close text) [
      | inl h ↦ let l = ap length h in omega arith
      | inr h ↦ let l = ap length h in let c = length-append text (10 ∷ []) in omega arith
    ]

module _ (text : List ℕ) (n size m : ℕ) (L : List (List ℕ)) (f : Fed text n size m L) where
  -- no line is left
  pub fed_end : L ≡ [] → text_until n (lines_of text) ≡ Err (m + 1)
  fed_end none = sym f.same ∙ ap (λ (ls : List (List ℕ)). before (fed f.lines) (text_until m ls)) none

  -- line l is taken off
  module _ (l : List ℕ) (ls : List (List ℕ)) (k : ℕ) (took : L ≡ l ∷ ls) (next : k ≡ m + 1) where
    here : lines_of text ≡ f.lines ++ (l ∷ ls)
    here = f.cut ∙ ap (λ (q : List (List ℕ)). f.lines ++ q) took

    left : before (fed f.lines) (text_until m (l ∷ ls)) ≡ text_until n (lines_of text)
    left = ap (λ (q : List (List ℕ)). before (fed f.lines) (text_until m q)) (sym took) ∙ f.same

    starts : (size ≤ length text) × (take size text ≡ fed f.lines)
    starts =
        let b = begins text (fed f.lines) (fed (l ∷ ls)) (let a = length-append l (10 ∷ fed ls) in omega arith)
        (subst (λ (t : List ℕ). Closes t text) (ap fed here ∙ fed_append f.lines (l ∷ ls)) (lines_close text)) in
        ((let s = f.long in let q = b.0 in omega arith), ap (λ (i : ℕ). take i text) f.long ∙ b.1)

    -- all lines so far lie in the text
    pub fed_within : size ≤ length text
    fed_within = starts.0

    -- it is the end
    pub fed_found : bytes_eq l (codes ".") ≡ true → text_until n (lines_of text) ≡ Ok (up_to (take size text) k ls)
    fed_found is =
        sym left
        ∙ ap (λ (b : Bool). before (fed f.lines) (cond b (Ok (up_to [] (m + 1) ls)) (line_before l (text_until (m + 1) ls)))) is
        ∙ ap (λ (t : List ℕ). Ok (up_to t (m + 1) ls)) (append-nil (fed f.lines) ∙ sym starts.1)
        ∙ ap (λ (i : ℕ). Ok (up_to (take size text) i ls)) (sym next)

    -- it is not the end
    pub fed_room : size + (length l + 1) ≤ length text + 1
    fed_room =
        let s = f.long in
        let a = ap length (fed_append f.lines (l ∷ [])) in
        let b = length-append (fed f.lines) (fed (l ∷ [])) in
        let c = length-append l (10 ∷ []) in
        let d = fed_long text (f.lines ++ (l ∷ [])) ls (here ∙ sym (append_assoc f.lines (l ∷ []) ls)) in
        omega arith

    pub fed_more : bytes_eq l (codes ".") ≡ false → (more : ℕ) → more ≡ size + (length l + 1) → Fed text n more k ls
    fed_more is more e =
        let whole : fed (f.lines ++ (l ∷ [])) ≡ fed f.lines ++ (l ++ (10 ∷ [])) = fed_append f.lines (l ∷ []) in
        record {
          lines = f.lines ++ (l ∷ []);
          cut = here ∙ sym (append_assoc f.lines (l ∷ []) ls);
          long =
              let s = f.long in
              let a = ap length whole in
              let b = length-append (fed f.lines) (l ++ (10 ∷ [])) in
              let c = length-append l (10 ∷ []) in
              omega arith;
          same =
              ap (λ (bs : List ℕ). before bs (text_until k ls)) whole
              ∙ sym (before_line (fed f.lines) l (text_until k ls))
              ∙ ap (λ (i : ℕ). before (fed f.lines) (line_before l (text_until i ls))) next
              ∙ ap (λ (b : Bool). before (fed f.lines) (cond b (Ok (up_to [] (m + 1) ls)) (line_before l (text_until (m + 1) ls)))) (sym is)
              ∙ left;
        }

before_leaves : (l : List ℕ) (m n : ℕ) (r : Result (UpTo (List ℕ)) ℕ) → m ≤ n → IfOk r (λ u. length u.behind ≤ m) → IfOk (line_before l r) (λ u. length u.behind ≤ n)
before_leaves l m n (Err k) h s = tt
before_leaves l m n (Ok u) h s = omega arith

-- a text leaves no more lines than there were
pub text_leaves : (n : ℕ) (ls : List (List ℕ)) → IfOk (text_until n ls) (λ u. length u.behind ≤ length ls)
text_leaves n [] = tt
text_leaves n (l ∷ ls) =
    elim (bytes_eq l (codes ".")) as (λ b. IfOk (cond b (Ok (up_to [] (n + 1) ls)) (line_before l (text_until (n + 1) ls))) (λ u. length u.behind ≤ length (l ∷ ls))) [
      | true ↦ omega arith
      | false ↦ before_leaves l (length ls) (length (l ∷ ls)) (text_until (n + 1) ls) (omega arith) (text_leaves (n + 1) ls)
    ]
