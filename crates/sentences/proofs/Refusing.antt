-- A word that is refused refuses its sentence, also behind words that are wanted.
use Rattle.std.proofs.Common.{◌≡◌, ℕ, List, [], ◌∷◌, Some, None, Err, Result, Option, sym, ap, ◌∙◌, subst}
use Rattle.charts.specs.declared.kinds.Kind.{Kind}
use Rattle.charts.specs.declared.kinds.Kind.TheVariants.{Action}
use Rattle.std.specs.Option.{option_map}
use Rattle.words.specs.declared.faults.Cause.{Cause}
use Rattle.words.specs.declared.faults.Fault.{Fault}
use Rattle.words.specs.Sentences.{Placed, Sentence, Ending}
use Rattle.words.specs.Reading.{first, with_first_word}
use Rattle.sentences.specs.Wants.{Want, exactly, name, peer, fault_of, at_byte, no_word, word_fault, and_then, if_wanted, reads}
use Rattle.sentences.specs.Reading.{reads_first}
use Rattle.sentences.specs.declared.parts.EventText.{EventText}
use Rattle.sentences.specs.Events.{EventWords, EventRead, if_read, message_in}

-- a word that is wanted stands before what the others say
pub wanted_first : (p : Want) (ps : List Want) (w : Placed) (before after : List Sentence) → fault_of p w.bytes ≡ None → before ≡ with_first_word w after →
    reads_first (p ∷ ps) before ≡ and_then w (reads_first ps after)
wanted_first p ps w before after fine is = ap (reads_first (p ∷ ps)) is ∙ ap (λ o. if_wanted o w (reads_first ps after)) fine

-- where the next one is refused, so is the sentence
pub refused_next : (p : Want) (ps : List Want) (w : Placed) (before after : List Sentence) (f : Fault) → fault_of p w.bytes ≡ None → before ≡ with_first_word w after →
    reads_first ps after ≡ Err f → reads_first (p ∷ ps) before ≡ Err f
refused_next p ps w before after f fine is bad = wanted_first p ps w before after fine is ∙ ap (and_then w) bad

-- the fault at a word is that of the sentence, whatever is wanted behind it
refused_words : (p : Want) (ps : List Want) (ws : List Placed) (e : Ending) (f : Fault) → word_fault p ws e ≡ Some f → reads (p ∷ ps) ws e ≡ Err f
refused_words p ps [] e f is = let same : no_word e ≡ f = cc in ap (λ (x : Fault). Err x) same
refused_words p ps (w ∷ ws) e f is = go (fault_of p w.bytes) is
  where
    go : (o : Option Cause) → option_map (λ c. at_byte c w.start) o ≡ Some f → if_wanted o w (reads ps ws e) ≡ Err f
    go None e = cc
    go (Some c) e = cc

refused_here : (p : Want) (ps : List Want) (before : List Sentence) (f : Fault) → word_fault p (first before).words (first before).ending ≡ Some f → reads_first (p ∷ ps) before ≡ Err f
refused_here p ps before f = refused_words p ps (first before).words (first before).ending f

-- what is read is refused by the fault that the sentence has
pub by_fault : (says : Result EventWords Fault) (before after : List Sentence) (f : Fault) (r : Result EventText Fault) → r ≡ Err f → says ≡ Err f → EventRead says before r after
by_fault says before after f r is bad = subst (λ (x : Result EventText Fault). EventRead says before x after) (sym is) bad

pub refused_action : (at : ℕ) (before : List Sentence) (f : Fault) → word_fault name (first before).words (first before).ending ≡ Some f →
    if_read at Action (reads (name ∷ []) (first before).words (first before).ending) ≡ Err f
refused_action at before f bad = ap (if_read at Action) (refused_here name [] before f bad)

-- a message's name, the word before its peer, and its peer
module _ (v : Placed) (k : Kind) (preposition : List ℕ) (before : List Sentence) (f : Fault) where
  pub refused_name : word_fault name (first before).words (first before).ending ≡ Some f → message_in v k preposition (first before) ≡ Err f
  refused_name bad = ap (if_read v.start k) (refused_here name (exactly preposition ∷ peer ∷ []) before f bad)

  pub refused_preposition : (w : Placed) (mid : List Sentence) → fault_of name w.bytes ≡ None → before ≡ with_first_word w mid → word_fault (exactly preposition) (first mid).words (first mid).ending ≡ Some f →
      message_in v k preposition (first before) ≡ Err f
  refused_preposition w mid fine is bad = ap (if_read v.start k) (refused_next name (exactly preposition ∷ peer ∷ []) w before mid f fine is (refused_here (exactly preposition) (peer ∷ []) mid f bad))

  pub refused_peer : (w x : Placed) (mid last : List Sentence) → fault_of name w.bytes ≡ None → before ≡ with_first_word w mid → fault_of (exactly preposition) x.bytes ≡ None → mid ≡ with_first_word x last →
      word_fault peer (first last).words (first last).ending ≡ Some f → message_in v k preposition (first before) ≡ Err f
  refused_peer w x mid last fine is fine' is' bad =
      ap (if_read v.start k)
      (refused_next name (exactly preposition ∷ peer ∷ []) w before mid f fine is (refused_next (exactly preposition) (peer ∷ []) x mid last f fine' is' (refused_here peer [] last f bad)))
