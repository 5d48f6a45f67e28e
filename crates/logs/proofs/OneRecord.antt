-- The bytes of one record.
use Rattle.std.proofs.Common.{◌≡◌, ℕ, List, [], Err, sym, refl, ◌∙◌, subst, append-nil}
use Rattle.records.specs.declared.parts.Record.TheVariants.{Head, Entry, End}
use Rattle.records.specs.declared.parts.Flaw.{Flaw}
use Rattle.records.specs.declared.parts.Flaw.TheVariants.{CutShort, WrongForm}
use Rattle.records.specs.Records.{written}
use Rattle.records.specs.Reading.{Reads}
use Rattle.charts.specs.declared.parts.Event.{Event}
use Rattle.media.specs.Carry.{Carry}
use Rattle.logs.specs.declared.parts.Cause.{Cause}
use Rattle.logs.specs.Causes.{of_flaw}
use Rattle.logs.specs.Reading.{NotOne, cut_short, wrong_record}
use Rattle.logs.specs.Heads.{HeadRefused, cut_short as head_short, wrong_record as no_head}
use Rattle.logs.specs.Events.{EventRefused, cut_short as entry_short, wrong_record as no_entry}
use Rattle.logs.specs.Ends.{EndRefused, cut_short as end_short, wrong_record as no_end}

-- bytes that begin with no record are no record
pub flaw_not_one : (bytes : List ℕ) (flaw : Flaw) (c : Cause) → c ≡ of_flaw flaw → Reads bytes (Err flaw) → NotOne bytes c
flaw_not_one bytes CutShort c e r = subst (NotOne bytes) (sym e) (cut_short refl r)
flaw_not_one bytes WrongForm c e r = subst (NotOne bytes) (sym e) (wrong_record refl r.0 (λ x is. r.1 x ([], is ∙ sym (append-nil (written x)))))

-- they are no head, no entry and no end
pub not_head : (L : List (List Event)) (bytes : List ℕ) (c : Cause) → NotOne bytes c → HeadRefused L bytes c
not_head L bytes c (cut_short n e) = head_short n e
not_head L bytes c (wrong_record n e none) = no_head n e (λ x is. none (Head x) is)

pub not_entry : (M : Carry) (L : List (List Event)) (h : List ℕ) (bytes : List ℕ) (c : Cause) → NotOne bytes c → EventRefused M L h bytes c
not_entry M L h bytes c (cut_short n e) = entry_short n e
not_entry M L h bytes c (wrong_record n e none) = no_entry n e (λ x is. none (Entry x) is)

pub not_end : (n : ℕ) (bytes : List ℕ) (c : Cause) → NotOne bytes c → EndRefused n bytes c
not_end n bytes c (cut_short m e) = end_short m e
not_end n bytes c (wrong_record m e none) = no_end m e (λ x is. none (End x) is)
