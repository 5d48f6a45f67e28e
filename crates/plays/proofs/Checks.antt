-- The logs of a script, one after another.
use Rattle.std.proofs.Common.{◌≡◌, ℕ, ◌+◌, ◌<◌, ◌≤◌, List, [], ◌∷◌, ◌++◌, length, get_or, take, drop, set, map, sym, refl, ap, ◌∙◌, subst₂, add-zero, arith}
use Rattle.std.proofs.lemmas.List.{get_or-drop, drop-drop, drop-set-lt, take_more, take_more_set, take_all}
use Rattle.media.specs.Carry.{Carry}
use Rattle.piles.specs.Meanings.{Meaning}
use Rattle.plays.specs.declared.parts.Log.{Log}
use Rattle.plays.specs.Logs.{log_content}
use Rattle.plays.specs.Checked.{LogChecked, LogsChecked}

module _ (a : Meaning) (M : Carry) where
  -- the first k logs are checked, and the others are as they were
  pub record SoFar (k : ℕ) (before now : List Log) : Type 0 where
    pub checked : LogsChecked a M (map log_content (take k before)) (take k now)
    pub rest : drop k now ≡ drop k before

  push : (xs ys : List Log) (x y : Log) → LogsChecked a M (map log_content xs) ys → LogChecked a M (log_content x) y → LogsChecked a M (map log_content (xs ++ (x ∷ []))) (ys ++ (y ∷ []))
  push [] [] x y c d = (d, tt)
  push [] (z ∷ ys) x y c d = absurd c
  push (z ∷ xs) [] x y c d = absurd c
  push (w ∷ xs) (z ∷ ys) x y c d = (c.0, push xs ys x y c.1 d)

  same_there : (k : ℕ) (before now : List Log) (x : Log) → drop k now ≡ drop k before → get_or now k x ≡ get_or before k x
  same_there k before now x e = sym (at_drop now) ∙ ap (λ (zs : List Log). get_or zs 0 x) e ∙ at_drop before
    where
      at_drop : (zs : List Log) → get_or (drop k zs) 0 x ≡ get_or zs k x
      at_drop zs = get_or-drop k zs 0 x ∙ ap (λ (n : ℕ). get_or zs n x) (add-zero k)

  drop_one : (k : ℕ) (zs : List Log) → drop (k + 1) zs ≡ drop 1 (drop k zs)
  drop_one k zs = sym (drop-drop 1 k zs)

  pub checked_none : (logs : List Log) → SoFar 0 logs logs
  checked_none logs = record { checked = tt; rest = refl }

  pub checked_more : (k : ℕ) (before now : List Log) (x y : Log) → SoFar k before now → k < length now → length now ≡ length before → x ≡ get_or now k x → LogChecked a M (log_content x) y → SoFar (k + 1) before (set now k y)
  checked_more k before now x y p l long is d =
      let here : take (k + 1) before ≡ take k before ++ (x ∷ []) =
      take_more before k x (omega arith) ∙ ap (λ (z : Log). take k before ++ (z ∷ [])) (sym (is ∙ same_there k before now x p.rest)) in
      record {
        checked =
            subst₂ (λ (xs ys : List Log). LogsChecked a M (map log_content xs) ys) (sym here) (sym (take_more_set now k y l))
            (push (take k before) (take k now) x y p.checked d);
        rest = drop-set-lt (k + 1) now k y (omega arith) ∙ drop_one k now ∙ ap (drop 1) p.rest ∙ sym (drop_one k before);
      }

  pub checked_all : (k : ℕ) (before now : List Log) → SoFar k before now → length before ≤ k → length now ≤ k → LogsChecked a M (map log_content before) now
  checked_all k before now p l m = subst₂ (λ (xs ys : List Log). LogsChecked a M (map log_content xs) ys) (take_all k before l) (take_all k now m) p.checked
