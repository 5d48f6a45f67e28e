-- The entries that are taken are those before the record that is refused.
use Rattle.std.proofs.Common.{◌≡◌, ℕ, suc, ◌+◌, ◌-◌, ◌≤◌, List, [], ◌∷◌, ◌++◌, length, Result, ap, ap₂, ◌∙◌, sym, refl, subst, length-append, arith}
use Rattle.charts.specs.declared.parts.Event.{Event}
use Rattle.charts.specs.Sound.{Sound}
use Rattle.media.specs.Media.{free}
use Rattle.orders.proofs.Decided.{may_or_waits}
use Rattle.records.specs.declared.parts.Head.{Head}
use Rattle.records.specs.declared.parts.Entry.{Entry}
use Rattle.records.specs.declared.parts.Record.TheVariants.{Head as head, Entry as entry}
use Rattle.records.specs.Records.{head_bytes, entry_bytes}
use Rattle.records.specs.Reading.{BeginsWith}
use Rattle.logs.specs.declared.parts.Cause.{Cause}
use Rattle.logs.specs.declared.parts.Refusal.{Refusal}
use Rattle.logs.specs.declared.parts.Verdict.{Verdict}
use Rattle.logs.specs.Heads.{head_of}
use Rattle.logs.specs.Ends.{end_of}
use Rattle.logs.specs.Entries.{Taken, EntryRefused, not_next, must_wait}
use Rattle.logs.specs.Logs.{RefusedBy, AfterEnd, nothing, cut_short as end_short, more as more_after, AfterEntries, goes_on, refused, cut_short as short, wrong_record as wrong, wrong_count, ends, LogAnswered, cut_short, wrong_record, other_chart, begins}
use Rattle.logs.proofs.Onward.{not_early}
use Rattle.logs.proofs.Split.{one_head, one_entry, entry_no_end}
use Rattle.logged.specs.Leading.{Leading, enough, over as no_entry, more as entry_more, most_taken}
use Rattle.logged.specs.Taken.{TakenFrom, more, over, headed, headless, instances_of, TakenIn}

module _ (L : List (List Event)) (sound : Sound L) (size : ℕ) (r : Result Verdict Refusal) where
  abbrev most : ℕ
  most = most_taken size r

  -- what is taken after h from the bytes on, and that so many entries lead them
  record Taking (h bytes : List ℕ) : Type 0 where
    pub entries : List Entry
    pub taken : TakenFrom free L h bytes entries
    pub leading : Leading (most - length h) bytes (instances_of entries)
    pub within : length h ≤ most

  refused_most : (number n : ℕ) → RefusedBy number (suc n) r → most ≡ n
  refused_most number n by = ap (most_taken size) by.2 ∙ (let z : suc n - 1 ≡ n = omega arith in z)

  -- no entry leads the bytes
  none_taken : (h bytes : List ℕ) → ((x : Entry) → BeginsWith bytes (entry x) → ⊥) → length h ≤ most → Taking h bytes
  none_taken h bytes none within = record { entries = []; taken = over h bytes (λ x b t. none x b); leading = no_entry (most - length h) bytes none; within = within }

  -- an entry that is refused is not taken
  not_both : (h : List ℕ) (x : Entry) (c : Cause) → Taken free L h x → EntryRefused free L h x c → ⊥
  not_both h x c t (not_next n none) = none t.names
  not_both h x c t (must_wait j n w names waits) = may_or_waits L sound free h x.instance j t.may waits

  after_end : (v : Verdict) (h rest : List ℕ) → length h ≤ size → AfterEnd v (length h + 2) rest r → length h ≤ most
  after_end v h rest few (nothing e a) = let is = ap (most_taken size) a in omega arith
  after_end v h rest few (end_short n e by) = let is : most ≡ length h + 2 - 1 = ap (most_taken size) by.2 in omega arith
  after_end v h rest few (more_after n by) = let is : most ≡ length h + 2 - 1 = ap (most_taken size) by.2 in omega arith

  taking : (h bytes : List ℕ) → length h + length bytes ≤ size → AfterEntries free L r h bytes → Taking h bytes
  taking _ _ few (goes_on h bytes x rest is t a) =
      let long : length bytes ≡ length (entry_bytes x ++ rest) = ap length is in
      let longer = length-append h (x.instance ∷ []) in
      let y = taking (h ++ (x.instance ∷ [])) rest (omega arith) a in
      let within = y.within in
      let count : suc (most - length (h ++ (x.instance ∷ []))) ≡ most - length h = omega arith in
      record {
        entries = x ∷ y.entries;
        taken = more h bytes x rest y.entries is t y.taken;
        leading = subst (λ (n : ℕ). Leading n bytes (x.instance ∷ instances_of y.entries)) count (entry_more (most - length (h ++ (x.instance ∷ []))) bytes x rest (instances_of y.entries) is y.leading);
        within = omega arith;
      }
  taking _ _ few (refused h bytes x c b e is) =
      let count : most ≡ length h = ap (most_taken size) is ∙ (let z : suc (length h) - 1 ≡ length h = omega arith in z) in
      let zero : 0 ≡ most - length h = omega arith in
      record {
        entries = [];
        taken = over h bytes (λ y d t. not_both h x c (subst (Taken free L h) (one_entry y x d.0 b.0 (sym d.1 ∙ b.1)).same t) e);
        leading = subst (λ (n : ℕ). Leading n bytes []) zero (enough bytes);
        within = omega arith;
      }
  taking _ _ few (short h bytes e by) = let is = refused_most 51 (length h) by in none_taken h bytes (λ x b. not_early bytes (entry x) b e) (omega arith)
  taking _ _ few (wrong h bytes whole none no_end by) = let is = refused_most 52 (length h) by in none_taken h bytes none (omega arith)
  taking _ _ few (wrong_count h bytes x b n by) = let is = refused_most 55 (length h) by in none_taken h bytes (λ y d. entry_no_end y x d.0 b.0 (sym d.1 ∙ b.1)) (omega arith)
  taking _ _ few (ends h bytes v rest is t a) = none_taken h bytes (λ y d. entry_no_end y (end_of (length h)) d.0 rest (sym d.1 ∙ is)) (after_end v h rest (omega arith) a)

-- the same entries lead the same bytes
pub same_leading : (n : ℕ) (bytes is : List ℕ) → Leading n bytes is → (m : ℕ) (others js : List ℕ) → m ≡ n → others ≡ bytes → Leading m others js → is ≡ js
same_leading _ _ _ (enough bytes) _ _ _ e f (enough others) = refl
same_leading _ _ _ (enough bytes) _ _ _ e f (no_entry m others none) = refl
same_leading _ _ _ (enough bytes) _ _ _ e f (entry_more m others y left js d k) = absurd (omega arith)
same_leading _ _ _ (no_entry n bytes none) _ _ _ e f (enough others) = refl
same_leading _ _ _ (no_entry n bytes none) _ _ _ e f (no_entry m others either) = refl
same_leading _ _ _ (no_entry n bytes none) _ _ _ e f (entry_more m others y left js d k) = absurd (none y (left, sym f ∙ d))
same_leading _ _ _ (entry_more n bytes x rest is b l) _ _ _ e f (enough others) = absurd (omega arith)
same_leading _ _ _ (entry_more n bytes x rest is b l) _ _ _ e f (no_entry m others none) = absurd (none x (rest, f ∙ b))
same_leading _ _ _ (entry_more n bytes x rest is b l) _ _ _ e f (entry_more m others y left js d k) =
    let o = one_entry x y rest left (sym b ∙ sym f ∙ d) in
    ap₂ (λ (i : ℕ) (w : List ℕ). i ∷ w) (ap (λ (z : Entry). z.instance) o.same) (same_leading n rest is l m left js (omega arith) (sym o.rest) k)

module _ (L : List (List Event)) (sound : Sound L) (log : List ℕ) (r : Result Verdict Refusal) where
  -- the entries behind the head of a log
  pub taken_behind : LogAnswered free L log r → (x : Head) (rest : List ℕ) → log ≡ head_bytes x ++ rest → (instances : List ℕ) → Leading (most_taken (length log) r) rest instances → TakenIn L log instances
  taken_behind (cut_short e by) x rest is instances l = absurd (not_early log (head x) (rest, is) e)
  taken_behind (wrong_record e none by) x rest is instances l = absurd (none x (rest, is))
  taken_behind (other_chart y b n by) x rest is instances l =
      let none : 0 ≡ most_taken (length log) r = sym (ap (most_taken (length log)) by.2) in
      ([], headless (λ d. n (one_head y (head_of L) b.0 d.0 (sym b.1 ∙ d.1)).same), same_leading (most_taken (length log) r) rest instances l 0 rest [] none refl (enough rest))
  taken_behind (begins behind b a) x rest is instances l =
      let o = one_head x (head_of L) rest behind (sym is ∙ b) in
      let long : length log ≡ length (head_bytes (head_of L) ++ behind) = ap length b in
      let t = taking L sound (length log) r [] behind (omega arith) a in
      (t.entries, headed behind t.entries b t.taken, same_leading (most_taken (length log) r) rest instances l (most_taken (length log) r - 0) behind (instances_of t.entries) (omega arith) (sym o.rest) t.leading)

  -- a log without a head
  pub taken_headless : ((x : Head) → BeginsWith log (head x) → ⊥) → (instances : List ℕ) → instances ≡ [] → TakenIn L log instances
  taken_headless none instances is = ([], headless (none (head_of L)), is)
