use Rattle.std.proofs.Common.{◌≡◌, ◌+◌, ℕ, ◌<◌, List, ◌∷◌, ◌++◌, length, get_or, sym, refl, subst, arith}
use Rattle.records.specs.declared.parts.Record.{Record}
use Rattle.records.specs.declared.parts.Record.TheVariants.{Head, Entry, End}
use Rattle.records.specs.Records.{word, written}
use Rattle.records.proofs.Beginning.{begins, byte_and_word, bytes_and_word, one_word, as_written, small_part}
use Rattle.records.proofs.parts.Record.read.Goals as goal
use Rattle.records.proofs.parts.Record.read.Goals.{in-1-len3, in-2-len4, in-3-len2}

pub returns-clause-reads : goal.returns-clause-reads
returns-clause-reads c =
    let bs = c.args.bytes.now in
    let p = c.in-Some.payload.now in
    let n = c.from-length.result in
    let k = c.word-2.result in
    let part = c.in-Some.ensures.lookup.0 in
    let bytes : (i : ℕ) → get_or bs i 0 < 256 = λ i. let h = c.type_inv.bytes i in omega arith in
    let b = begins bs p n k c.in-len4-up.len_at_least bytes (omega arith) (omega arith) part.1 part.2 in
    let long : length p ≡ n = omega arith in
    let small : (i : ℕ) → get_or p i 0 < 256 = small_part bs p n bytes part.2 in
    elim c.match-word.branch [
      | in-1-len3 w ↦
          subst (λ (r : Record). ((rest : List ℕ) × (bs ≡ written r ++ rest)) × (4 + n ≡ length (written r))) (sym w.record-is)
          (as_written bs p (get_or p 0 0 ∷ word w.word-in-1-len3.result) n k 1 (Head _) b w.in-1-len3.is-0
          (byte_and_word p w.word-in-1-len3.result w.in-1-len3.len_at_least w.in-1-len3.len_below small w.word-in-1-len3.ensures) refl long)
      | in-2-len4 w ↦
          subst (λ (r : Record). ((rest : List ℕ) × (bs ≡ written r ++ rest)) × (4 + n ≡ length (written r))) (sym w.record-is)
          (as_written bs p (get_or p 0 0 ∷ get_or p 1 0 ∷ word w.word-in-2-len4.result) n k 2 (Entry _) b w.in-2-len4.is-0
          (bytes_and_word p w.word-in-2-len4.result w.in-2-len4.len_at_least w.in-2-len4.len_below small w.word-in-2-len4.ensures) refl long)
      | in-3-len2 w ↦
          subst (λ (r : Record). ((rest : List ℕ) × (bs ≡ written r ++ rest)) × (4 + n ≡ length (written r))) (sym w.record-is)
          (as_written bs p (word w.word-in-3-len2.result) n k 3 (End _) b w.in-3-len2.is-0
          (one_word p w.word-in-3-len2.result w.in-3-len2.len_at_least w.in-3-len2.len_below small w.word-in-3-len2.ensures) refl long)
    ]
