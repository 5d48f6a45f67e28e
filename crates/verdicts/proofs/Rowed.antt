-- The rows of a ring, written one after the other.
use Rattle.std.proofs.Common.{◌≡◌, ℕ, ◌+◌, ◌<◌, ◌≤◌, List, [], ◌∷◌, ◌++◌, length, map, take, slice_set, slice_index_or, sym, ap, ◌∙◌, arith}
use Rattle.std.proofs.lemmas.List.{length-map, length-take-le, map_more}
use Rattle.texts.specs.declared.rows.Name.{Name}
use Rattle.texts.specs.Rows.{padded}
use Rattle.texts.proofs.Padding.{padded_more}
use Rattle.verdicts.specs.declared.answers.Member.{Member}
use Rattle.verdicts.specs.Answers.{no_member, member_of, rows_of}

-- one row more
pub rows_next : (names : List Name) (rows : List Member) (ring : List ℕ) (k : ℕ) (x : Member) → rows ≡ rows_of names (take k ring) → k < length ring → length ring ≤ 32 →
    x ≡ member_of names (slice_index_or ring k 0) → slice_set rows k x ≡ rows_of names (take (k + 1) ring)
rows_next names rows ring k x is l few one =
    let f = member_of names in
    let long : length (map f (take k ring)) ≡ k = length-map (take k ring) f ∙ length-take-le k ring (omega arith) in
    ap (λ (r : List Member). slice_set r k x) is
    ∙ ap (λ (n : ℕ). slice_set (padded no_member 32 (map f (take k ring))) n x) (sym long)
    ∙ padded_more no_member 32 (map f (take k ring)) x (omega arith)
    ∙ ap (λ (y : Member). padded no_member 32 (map f (take k ring) ++ (y ∷ []))) one
    ∙ ap (padded no_member 32) (sym (map_more f ring k 0 l))
