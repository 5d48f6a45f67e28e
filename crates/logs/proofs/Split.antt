-- Bytes that begin with two records begin with one.
use Rattle.std.proofs.Common.{◌≡◌, ℕ, ◌/◌, ◌%◌, List, ◌++◌, ap, ◌∙◌, arith}
use Rattle.records.specs.declared.parts.Head.{Head}
use Rattle.records.specs.declared.parts.Entry.{Entry}
use Rattle.records.specs.declared.parts.End.{End}
use Rattle.logs.specs.Ends.{end_of}
use Rattle.records.specs.Records.{head_bytes, entry_bytes, end_bytes}

-- a number is told by its two bytes
one_word : (m n : ℕ) → m % 256 ≡ n % 256 → m / 256 ≡ n / 256 → m ≡ n
one_word m n a b = omega arith

abbrev entry_with : ℕ → ℕ → ℕ → Entry
entry_with i k n = record { instance = i; kind = k; number = n }

pub record OneEntry (x y : Entry) (u v : List ℕ) : Type 0 where
  pub same : x ≡ y
  pub rest : u ≡ v

pub one_entry : (x y : Entry) (u v : List ℕ) → entry_bytes x ++ u ≡ entry_bytes y ++ v → OneEntry x y u v
one_entry x y u v e =
    let i : x.instance ≡ y.instance = cc in
    let k : x.kind ≡ y.kind = cc in
    let a : x.number % 256 ≡ y.number % 256 = cc in
    let b : x.number / 256 ≡ y.number / 256 = cc in
    let n = one_word x.number y.number a b in
    record {
      same = ap (λ (z : ℕ). entry_with z x.kind x.number) i ∙ ap (λ (z : ℕ). entry_with y.instance z x.number) k ∙ ap (entry_with y.instance y.kind) n;
      rest = cc;
    }

pub record OneEnd (x y : End) (u v : List ℕ) : Type 0 where
  pub same : x ≡ y
  pub rest : u ≡ v

pub one_end : (x y : End) (u v : List ℕ) → end_bytes x ++ u ≡ end_bytes y ++ v → OneEnd x y u v
one_end x y u v e =
    let a : x.count % 256 ≡ y.count % 256 = cc in
    let b : x.count / 256 ≡ y.count / 256 = cc in
    let n = one_word x.count y.count a b in
    record { same = ap end_of n; rest = cc }

-- an entry is no end
pub entry_no_end : (x : Entry) (y : End) (u v : List ℕ) → entry_bytes x ++ u ≡ end_bytes y ++ v → ⊥
entry_no_end x y u v e = let z : ◌≡◌ {A = ℕ} 4 2 = cc in omega arith

pub record OneHead (x y : Head) (u v : List ℕ) : Type 0 where
  pub same : x ≡ y
  pub rest : u ≡ v

abbrev head_with : ℕ → ℕ → Head
head_with w n = record { width = w; events = n }

pub one_head : (x y : Head) (u v : List ℕ) → head_bytes x ++ u ≡ head_bytes y ++ v → OneHead x y u v
one_head x y u v e =
    let w : x.width ≡ y.width = cc in
    let a : x.events % 256 ≡ y.events % 256 = cc in
    let b : x.events / 256 ≡ y.events / 256 = cc in
    let n = one_word x.events y.events a b in
    record { same = ap (λ (z : ℕ). head_with z x.events) w ∙ ap (head_with y.width) n; rest = cc }
