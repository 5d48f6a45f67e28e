-- The worked examples of Z.120 Annex B, derived.
use Rattle.std.proofs.Common.{◌≡◌, ℕ, Bool, true, false, not, ◌&&◌, ◌||◌, eqb, sym, refl, ap, ◌∙◌, subst}
use mathlib.Core.Path.{fun_ext}
use Rattle.std.proofs.lemmas.Bool.{eq-eqb, ne_eqb, eqb-true, or_left, or_right, or_from}
use Rattle.process.specs.Actions.{out, «in»}
use Rattle.process.specs.Processes.{Messages, none, with_message, without_message, Process, ε, δ, act, ◌⊕◌, ◌·◌, ◌‖◌, √, filter}
use Rattle.process.specs.Equations.{◌≈◌, A1, A5, A6, A8, TM1, LM1, LM3, LM6, LM7, LM8, LM9}
use Rattle.process.specs.Equations.{reflexive, symmetric, transitive, in_alternative, in_sequence, in_merge, in_filter}
use Rattle.process.specs.Examples.{OutputThenInput, OutputMergedWithInput, ThreeInstancesMerged, ThreeInstancesChart, Examples}
use Rattle.process.proofs.Interleavings.{one_and_sum, empty_sum, single_empty, action_empty, singles, action_single, action_left_merge, action_no_end}
use Rattle.process.proofs.Interleavings.{action_pair}

-- sets with one message more and one less
without_with : (M : Messages) (m : ℕ) → M m ≡ false → without_message (with_message M m) m ≡ M
without_with M m f = fun_ext (λ n. go n (eqb n m) refl)
  where
    go : (n : ℕ) (b : Bool) → eqb n m ≡ b → (not b && (b || M n)) ≡ M n
    go n true e = sym (ap M (eqb-true n m e) ∙ f)
    go n false e = refl

with_swap : (M : Messages) (m n : ℕ) → with_message (with_message M m) n ≡ with_message (with_message M n) m
with_swap M m n = fun_ext (λ x. go (eqb x n) (eqb x m) (M x))
  where
    go : (b c d : Bool) → (b || (c || d)) ≡ (c || (b || d))
    go true true d = refl
    go true false d = refl
    go false true d = refl
    go false false d = refl

has : (M : Messages) (m : ℕ) → with_message M m m ≡ true
has M m = or_left (eqb m m) (M m) (eq-eqb m m refl)

-- an input whose message is in the set takes it from the set
takes_last : (M : Messages) (i j m : ℕ) → M m ≡ false → filter (with_message M m) (act («in» i j m)) ≈ act («in» i j m) · filter M ε
takes_last M i j m f =
    transitive (in_filter (with_message M m) (symmetric (A8 (act («in» i j m)))))
    (subst (λ (N : Messages). filter (with_message M m) (act («in» i j m) · ε) ≈ act («in» i j m) · filter N ε) (without_with M m f)
    (LM7 (with_message M m) i j m ε (has M m)))

none_ends : filter none ε ≈ ε
none_ends = LM1 none (λ m. refl)

only_input : (i j m : ℕ) → filter (with_message none m) (act («in» i j m)) ≈ act («in» i j m)
only_input i j m = transitive (takes_last none i j m refl) (transitive (in_sequence (reflexive (act («in» i j m))) none_ends) (A8 (act («in» i j m))))

output_then_input : (i j m : ℕ) → OutputThenInput i j m
output_then_input i j m =
    let o = act (out i j m) in
    let n = act («in» i j m) in (
      LM6 none i j m n refl,
      (
        transitive (in_sequence (reflexive o) (takes_last none i j m refl)) (symmetric (A5 o n (filter none ε))),
        (transitive (in_sequence (reflexive (o · n)) none_ends) (A8 (o · n)), tt),
      ),
    )

sends_and_takes : (i j m : ℕ) → filter none (act (out i j m) · act («in» i j m)) ≈ act (out i j m) · act («in» i j m)
sends_and_takes i j m = let c = output_then_input i j m in transitive c.0 (transitive c.1.0 c.1.1.0)

input_first : (i j m : ℕ) (x : Process) → filter none (act («in» i j m) · x) ≈ δ
input_first i j m x = LM8 none i j m x refl

output_merged_with_input : (i j m : ℕ) → OutputMergedWithInput i j m
output_merged_with_input i j m =
    let o = act (out i j m) in
    let n = act («in» i j m) in (
      in_filter none
          (transitive (TM1 o n)
          (in_alternative (in_alternative (action_left_merge (out i j m) («in» i j m)) (action_left_merge («in» i j m) (out i j m))) (reflexive (√ o · √ n)))),
      (
        transitive (LM9 none (o · n ⊕ n · o) (√ o · √ n))
            (in_alternative (LM9 none (o · n) (n · o)) (transitive (in_filter none (action_no_end (out i j m) n)) (LM3 none))),
        (
          in_alternative (in_alternative (sends_and_takes i j m) (input_first i j m o)) (reflexive δ),
          (transitive (A6 (o · n ⊕ δ)) (A6 (o · n)), tt),
        ),
      ),
    )

-- the three instances
module _ (m n : ℕ) where
  three_instances_merged : ThreeInstancesMerged m n
  three_instances_merged =
      let a = out 0 1 m in
      let b = out 0 2 n in
      let c = «in» 0 1 m in
      let d = «in» 0 2 n in
      let w = act c · act d ⊕ act d · act c in
      let rest : act c · ε ‖ (act d · ε ‖ ε) ≈ w = transitive (in_merge (reflexive (act c · ε)) (single_empty d)) (singles c d) in
      let later : act b · ε ‖ w ≈ act c · (act b · act d ⊕ act d · act b) ⊕ act b · w ⊕ act d · (act c · act b ⊕ act b · act c) =
      transitive (one_and_sum b c d ε (act d) (act c))
      (in_alternative
      (transitive
      (in_alternative (in_sequence (reflexive (act b)) (empty_sum c d (act d) (act c) (action_empty d) (action_empty c)))
      (in_sequence (reflexive (act c)) (transitive (action_single d b) (A1 (act d · act b) (act b · act d)))))
      (A1 (act b · w) (act c · (act b · act d ⊕ act d · act b))))
      (in_sequence (reflexive (act d)) (action_single c b))) in
      transitive (in_merge (reflexive (act a · (act b · ε))) rest)
      (transitive (one_and_sum a c d (act b · ε) (act d) (act c))
      (in_alternative (in_alternative (in_sequence (reflexive (act a)) later) (in_sequence (reflexive (act c)) (action_pair d a b)))
      (in_sequence (reflexive (act d)) (action_pair c a b))))

  module _ (other : m ≡ n → ⊥) where
    n_not_in : with_message none m n ≡ false
    n_not_in = or_from (eqb n m) false (ne_eqb n m (λ e. other (sym e))) refl

    m_not_in : with_message none n m ≡ false
    m_not_in = or_from (eqb m n) false (ne_eqb m n other) refl

    -- the two inputs, with both messages on the way
    both_inputs : filter (with_message (with_message none m) n) (act («in» 0 1 m) · act («in» 0 2 n) ⊕ act («in» 0 2 n) · act («in» 0 1 m)) ≈
        act («in» 0 1 m) · act («in» 0 2 n) ⊕ act («in» 0 2 n) · act («in» 0 1 m)
    both_inputs =
        let c = act («in» 0 1 m) in
        let d = act («in» 0 2 n) in
        let both = with_message (with_message none m) n in
        transitive (LM9 both (c · d) (d · c))
        (in_alternative
        (transitive (LM7 both 0 1 m d (or_right (eqb m n) (with_message none m m) (has none m)))
        (in_sequence (reflexive c)
        (subst (λ (N : Messages). filter N d ≈ d) (sym (ap (λ (N : Messages). without_message N m) (with_swap none m n) ∙ without_with (with_message none n) m m_not_in)) (only_input 0 2 n))))
        (transitive (LM7 both 0 2 n c (has (with_message none m) n))
        (in_sequence (reflexive d) (subst (λ (N : Messages). filter N c ≈ c) (sym (without_with (with_message none m) n n_not_in)) (only_input 0 1 m)))))

    -- message n alone, after the input of m
    after_input : filter none (act (out 0 2 n) · act («in» 0 2 n) ⊕ act («in» 0 2 n) · act (out 0 2 n)) ≈ act (out 0 2 n) · act («in» 0 2 n)
    after_input =
        let b = act (out 0 2 n) in
        let d = act («in» 0 2 n) in
        transitive (LM9 none (b · d) (d · b)) (transitive (in_alternative (sends_and_takes 0 2 n) (input_first 0 2 n b)) (A6 (b · d)))

    -- after the output of m
    after_output : (x : Process) →
        filter (with_message none m)
        (act («in» 0 1 m) · (act (out 0 2 n) · act («in» 0 2 n) ⊕ act («in» 0 2 n) · act (out 0 2 n)) ⊕
        act (out 0 2 n) · (act («in» 0 1 m) · act («in» 0 2 n) ⊕ act («in» 0 2 n) · act («in» 0 1 m)) ⊕ act («in» 0 2 n) · x) ≈
        act («in» 0 1 m) · act (out 0 2 n) · act («in» 0 2 n) ⊕ act (out 0 2 n) · (act («in» 0 1 m) · act («in» 0 2 n) ⊕ act («in» 0 2 n) · act («in» 0 1 m))
    after_output x =
        let b = act (out 0 2 n) in
        let c = act («in» 0 1 m) in
        let d = act («in» 0 2 n) in
        let M = with_message none m in
        let p = b · d ⊕ d · b in
        let w = c · d ⊕ d · c in
        let first : filter M (c · p) ≈ c · b · d =
        transitive (LM7 M 0 1 m p (has none m))
        (transitive (in_sequence (reflexive c) (subst (λ (N : Messages). filter N p ≈ b · d) (sym (without_with none m refl)) after_input)) (symmetric (A5 c b d))) in
        let second : filter M (b · w) ≈ b · w = transitive (LM6 M 0 2 n w n_not_in) (in_sequence (reflexive b) both_inputs) in
        transitive (LM9 M (c · p ⊕ b · w) (d · x))
        (transitive (in_alternative (transitive (LM9 M (c · p) (b · w)) (in_alternative first second)) (LM8 M 0 2 n x n_not_in)) (A6 (c · b · d ⊕ b · w)))

    three_instances_chart : ThreeInstancesChart m n
    three_instances_chart =
        let a = act (out 0 1 m) in
        let b = act (out 0 2 n) in
        let c = act («in» 0 1 m) in
        let d = act («in» 0 2 n) in
        let x = c · (b · d ⊕ d · b) ⊕ b · (c · d ⊕ d · c) ⊕ d · (c · b ⊕ b · c) in
        let y = a · (d · b ⊕ b · d) ⊕ d · a · b in
        let z = a · (c · b ⊕ b · c) ⊕ c · a · b in
        let e = c · b · d ⊕ b · (c · d ⊕ d · c) in
        transitive (in_filter none three_instances_merged)
        (transitive (LM9 none (a · x ⊕ c · y) (d · z))
        (transitive
        (in_alternative
        (transitive (LM9 none (a · x) (c · y))
        (in_alternative (transitive (LM6 none 0 1 m x refl) (in_sequence (reflexive a) (after_output (c · b ⊕ b · c)))) (input_first 0 1 m y)))
        (input_first 0 2 n z))
        (transitive (A6 (a · e ⊕ δ)) (A6 (a · e)))))

pub examples : Examples
examples =
    record {
      output_then_input = output_then_input;
      input_then_output = λ i j m. (input_first i j m (act (out i j m)), tt);
      output_merged_with_input = output_merged_with_input;
      three_instances_merged = three_instances_merged;
      three_instances_chart = three_instances_chart;
    }
