-- The lines of a listing are those of the chart that its text writes.
use Rattle.std.proofs.Common.{◌≡◌, ℕ, zero, suc, ◌+◌, ◌<◌, ◌≤◌, eqb, List, [], ◌∷◌, ◌++◌, length, map, take, drop, codes, decimal, slice_get, Some, Option, option_map, Ok, Err, Result, inl, inr, refl, sym, ap, ap₂, ◌∙◌, subst, append_assoc, append-nil, arith}
use Rattle.std.proofs.lemmas.Bool.{cases_eq, cases_lt, cond-true, cond-false, eq-eqb, ne_eqb}
use Rattle.std.proofs.lemmas.List.{length-map, take_at, take_all}
use Rattle.std.proofs.lemmas.Option.{slice_get-map, slice_get_within}
use Rattle.charts.specs.declared.parts.Event.{Event}
use Rattle.charts.specs.Lists.{count_of, event_of}
use Rattle.charts.specs.Texts.{spaced}
use Rattle.media.specs.Carry.{Carry}
use Rattle.media.specs.Media.{free}
use Rattle.orders.specs.Histories.{pos}
use Rattle.orders.specs.May.{May, alone, sends, takes, Waits, receiver, sender, itself}
use Rattle.orders.specs.Rings.{Leads, Ring}
use Rattle.orders.proofs.Positions.{pos_append}
use Rattle.orders.proofs.Latest.{shorter}
use Rattle.tables.specs.TableLists.{table_lists}
use Rattle.listings.specs.Report.{line}
use Rattle.runs.specs.declared.parts.Verdict.{Verdict}
use Rattle.runs.specs.declared.parts.Verdict.TheVariants.{Runs, Stuck}
use Rattle.runs.specs.Verdicts.{Judges, RunsOn, StuckBy}
use Rattle.words.specs.declared.faults.Fault.{Fault}
use Rattle.words.specs.Sentences.{sentences}
use Rattle.items.specs.Surveys.{items_in}
use Rattle.grammar.specs.Texts.{EventText, outputs, inputs, acts, InstanceText, ChartText}
use Rattle.grammar.specs.Writing.{Writes}
use Rattle.texts.specs.declared.rows.Name.{Name}
use Rattle.texts.specs.Rows.{no_name}
use Rattle.texts.specs.Readings.{Tables, Answer, answer_in, read_as, tables_of, greatest}
use Rattle.texts.specs.Names.{place_in, message_of, action_of, instance_names, message_names, action_names}
use Rattle.texts.specs.Charted.{event_in, lists_of}
use Rattle.texts.specs.Static.{Static}
use Rattle.texts.specs.Builds.{bytes_at, StandFor, Builds}
use Rattle.texts.proofs.Padding.{take_rows}
use Rattle.texts.proofs.Taking.{takes_ok}
use Rattle.texts.proofs.Fitting.{size_said, first_fault}
use Rattle.lines.specs.declared.listing.Listing.{Listing}
use Rattle.lines.specs.Names.{name_at}
use Rattle.lines.specs.Listings.{HoldsRows}
use Rattle.lines.specs.Lines.{instance_name, event_name, kind_word, heading_line, event_line, verdict_line}
use Rattle.judged.specs.Shown.{chart_in, step_lines, order_lines, ListsText, ShowsRead, Shows}
use Rattle.judged.specs.Told.{event_words, chart_line, step_line, TellsSteps, none, step, TellsText, runs, gets_stuck, refused}
use Rattle.judged.proofs.Holding.{lengths_held, events_held}
use Rattle.judged.proofs.Naming.{stands_at, has_own, once_has, among_all, row_named, Said, said}

-- an instance that may run, or waits, has an event left
may_within : {M : Carry} {L : List (List Event)} {h : List ℕ} {i : ℕ} → May M L h i → pos h i < count_of L i
may_within (alone e n x) = n.within
may_within (sends j m n l s) = n.within
may_within (takes s m k n l o p t) = n.within

waits_within : {M : Carry} {L : List (List Event)} {h : List ℕ} {i j : ℕ} → Waits M L h i j → pos h i < count_of L i
waits_within (receiver j m n l s) = n.within
waits_within (sender s m k n l o p) = n.within
waits_within (itself s m k n l o p t) = n.within

-- the numbers below n, each once
below : ℕ → List ℕ
below zero = []
below (suc n) = n ∷ below n

below_length : (n : ℕ) → length (below n) ≡ n
unfolding below
below_length zero = refl
below_length (suc n) = ap suc (below_length n)

below_has : (n j : ℕ) → j < n → 1 ≤ pos (below n) j
unfolding below
below_has zero j l = omega arith
below_has (suc n) j l =
    elim (cases_eq n j) [
      | inl same ↦ let c = cond-true {A = ℕ} (eqb n j) 1 0 (eq-eqb n j same) in omega arith
      | inr other ↦ let r = below_has n j (omega arith) in omega arith
    ]

-- the rows of names that are in use
rows_used : (text : List ℕ) (table used : List Name) (names : List (List ℕ)) (n : ℕ) → StandFor text table names → used ≡ take n table → n ≡ length names → map (bytes_at text) used ≡ names
rows_used text table used names n s is count =
    ap (map (bytes_at text))
    (is ∙ take_rows no_name (length table) n s.rows table s.table_is (count ∙ sym (ap length s.names_are) ∙ length-map s.rows (bytes_at text)))
    ∙ s.names_are

module _ (text : List ℕ) (c : ChartText) (a : Answer) (t : Tables) (l : Listing) (b : Builds text c a t) (of_text : l.reading.text.now ≡ text) (answer_is : answer_in l.reading ≡ a) (held : HoldsRows l.reading t.lengths t.events t.instances t.messages t.actions l) where
  abbrev L : List (List Event)
  L = lists_of c

  pub chart_is : chart_in l ≡ L
  chart_is = ap₂ table_lists (lengths_held text c a t l l.reading answer_is b held) (events_held text c a t l l.reading answer_is b held) ∙ b.chart

  width_is : length L ≡ length c.instances
  width_is = length-map c.instances _

  heading_is : heading_line l ≡ chart_line c
  heading_is =
      ap (λ (w : List ℕ). line (spaced (codes "chart" ∷ w ∷ decimal l.reading.instances ∷ decimal l.reading.events ∷ []))) (ap (λ (y : Answer). y.title.bytes) answer_is ∙ b.title)
      ∙ ap (λ (n : ℕ). line (spaced (codes "chart" ∷ c.title ∷ decimal n ∷ decimal l.reading.events ∷ []))) (ap (λ (y : Answer). y.instances) answer_is ∙ b.instance_count ∙ width_is)
      ∙ ap (λ (n : ℕ). line (spaced (codes "chart" ∷ c.title ∷ decimal (length c.instances) ∷ decimal n ∷ []))) (ap (λ (y : Answer). y.events) answer_is ∙ b.event_count ∙ size_said (event_in c) c.instances)

  -- names by their numbers
  instance_named : (i : ℕ) (n : InstanceText) → slice_get c.instances i ≡ Some n → (slice_get (instance_names c) i ≡ Some n.name) × (instance_name l i ≡ n.name)
  instance_named i n at =
      let named : slice_get (instance_names c) i ≡ Some n.name = slice_get-map (λ (x : InstanceText). x.name) c.instances i ∙ ap (option_map (λ (x : InstanceText). x.name)) at in (
        named,
        ap (λ (bs : List ℕ). name_at bs l.instances.now i) of_text
            ∙ row_named text l.instances.now (instance_names c) i n.name
            (rows_used text t.instances l.instances.now (instance_names c) l.reading.instances b.instances held.instances_used
            (ap (λ (y : Answer). y.instances) answer_is ∙ b.instance_count ∙ width_is ∙ sym (length-map c.instances (λ (x : InstanceText). x.name))))
            named,
      )

  message_named : (k : ℕ) (m : List ℕ) → slice_get (message_names c) k ≡ Some m → name_at l.reading.text.now l.messages.now k ≡ m
  message_named k m at =
      ap (λ (bs : List ℕ). name_at bs l.messages.now k) of_text
      ∙ row_named text l.messages.now (message_names c) k m
      (rows_used text t.messages l.messages.now (message_names c) l.reading.messages b.messages held.messages_used (ap (λ (y : Answer). y.messages) answer_is ∙ b.message_count)) at

  action_named : (k : ℕ) (m : List ℕ) → slice_get (action_names c) k ≡ Some m → name_at l.reading.text.now l.actions.now k ≡ m
  action_named k m at =
      ap (λ (bs : List ℕ). name_at bs l.actions.now k) of_text
      ∙ row_named text l.actions.now (action_names c) k m
      (rows_used text t.actions l.actions.now (action_names c) l.reading.actions b.actions held.actions_used (ap (λ (y : Answer). y.actions) answer_is ∙ b.action_count)) at

  -- the words of an event
  words_are : (i k : ℕ) (n : InstanceText) (x : EventText) → slice_get c.instances i ≡ Some n → slice_get n.events k ≡ Some x →
      (kind_word (event_in c x).kind ∷ event_name l (event_in c x) ∷ []) ≡ event_words x
  words_are i k n (outputs m p) at here =
      ap (λ (w : List ℕ). codes "out" ∷ w ∷ [])
      (message_named (place_in (message_names c) m) m (stands_at (message_names c) m (once_has _ m (among_all message_of c.instances i k n (outputs m p) m at here (has_own m [])))))
  words_are i k n (inputs m p) at here =
      ap (λ (w : List ℕ). codes "in" ∷ w ∷ [])
      (message_named (place_in (message_names c) m) m (stands_at (message_names c) m (once_has _ m (among_all message_of c.instances i k n (inputs m p) m at here (has_own m [])))))
  words_are i k n (acts m) at here =
      ap (λ (w : List ℕ). codes "action" ∷ w ∷ [])
      (action_named (place_in (action_names c) m) m (stands_at (action_names c) m (once_has _ m (among_all action_of c.instances i k n (acts m) m at here (has_own m [])))))

  -- the line of a step
  step_is : (place i k : ℕ) (s : Said (event_in c) c.instances i k (event_of L i k)) → event_line l place i k ≡ step_line place s.instance_text s.event_text
  step_is place i k s =
      ap (λ (y : Event). line (spaced (decimal place ∷ instance_name l i ∷ kind_word y.kind ∷ event_name l y ∷ []))) (ap (λ (M : List (List Event)). event_of M i k) chart_is ∙ s.is)
      ∙ ap (λ (ws : List (List ℕ)). line (spaced (decimal place ∷ instance_name l i ∷ ws))) (words_are i k s.instance_text s.event_text s.instance_at s.event_at)
      ∙ ap (λ (w : List ℕ). line (spaced (decimal place ∷ w ∷ event_words s.event_text))) (instance_named i s.instance_text s.instance_at).1

  pub steps_told : (h w : List ℕ) → ((u : List ℕ) (i : ℕ) (v : List ℕ) → w ≡ u ++ (i ∷ v) → May free L (h ++ u) i) → TellsSteps c h w (step_lines l h w)
  steps_told h [] may = none h
  steps_told h (i ∷ w) may =
      let m : May free L h i = subst (λ (g : List ℕ). May free L g i) (append-nil h) (may [] i w refl) in
      let s = said (event_in c) c.instances i (pos h i) (may_within m) in
      subst (TellsSteps c h (i ∷ w)) (ap (λ (bs : List ℕ). bs ++ step_lines l (h ++ (i ∷ [])) w) (sym (step_is (length h + 1) i (pos h i) s)))
      (step h w (step_lines l (h ++ (i ∷ [])) w) i s.instance_text s.event_text s.instance_at s.event_at
      (steps_told (h ++ (i ∷ [])) w (λ u j v e. subst (λ (g : List ℕ). May free L g j) (sym (append_assoc h (i ∷ []) u)) (may (i ∷ u) j v (ap (λ (ws : List ℕ). i ∷ ws) e)))))

  -- the names of a ring
  ring_named : (g xs : List ℕ) (y : ℕ) → Leads (Waits free L g) xs y → map (slice_get (instance_names c)) xs ≡ map Some (map (instance_name l) xs)
  ring_named g [] y h = refl
  ring_named g (x ∷ xs) y h =
      let s = said (event_in c) c.instances x (pos g x) (waits_within h.0) in
      let n = instance_named x s.instance_text s.instance_at in
      ap₂ (λ (o : Option (List ℕ)) (os : List (Option (List ℕ))). o ∷ os) (n.0 ∙ ap Some (sym n.1)) (ring_named g xs y h.1)

  -- its instances are the chart's
  none_past : (g xs : List ℕ) (y : ℕ) → Leads (Waits free L g) xs y → (i : ℕ) → length c.instances ≤ i → pos xs i ≡ 0
  none_past g [] y h i past = refl
  none_past g (x ∷ xs) y h i past =
      let s = said (event_in c) c.instances x (pos g x) (waits_within h.0) in
      let w = slice_get_within c.instances x s.instance_text s.instance_at in
      let d = cond-false {A = ℕ} (eqb x i) 1 0 (ne_eqb x i (λ e. omega arith)) in
      let r = none_past g xs y h.1 i past in
      omega arith

  leads_right : (R : ℕ → ℕ → Type 0) (xs ys : List ℕ) (y : ℕ) → Leads R (xs ++ ys) y → Leads R ys y
  leads_right R [] ys y h = h
  leads_right R (x ∷ xs) ys y h = leads_right R xs ys y h.1

  -- and at most 32
  ring_few : (g ring : List ℕ) → length L ≤ 32 → Ring free L g ring → length ring ≤ 32
  ring_few g ring few r =
      let many = below_length 32 in
      let s = shorter ring (below 32) fits in
      omega arith
    where
      fits : (j : ℕ) → pos ring j ≤ pos (below 32) j
      fits j =
          elim (cases_lt j 32) [
            | inl l ↦ let a = below_has 32 j l in let o = r.once j in let p = pos_append r.lead ring j in omega arith
            | inr m ↦ let z = none_past g ring r.first (leads_right (Waits free L g) r.lead ring r.first r.waits) j (let w = width_is in omega arith) in omega arith
          ]

  -- a chart that keeps the rules, and what judge says of it
  module _ (writes : Writes text c) (static : Static c) (bytes out out' : List ℕ) where
    order_told : (n : ℕ) (w : List ℕ) → RunsOn free L [] n out out' w → bytes ≡ heading_line l ++ (step_lines l [] (take n out') ++ line (codes "runs")) → TellsText text bytes
    order_told n w r are =
        runs c writes static
        (record {
          order = w;
          full = r.full;
          lowest = r.lowest;
          steps = step_lines l [] w;
          tells = steps_told [] w r.full.order;
          bytes_are =
              are ∙ ap (λ (bs : List ℕ). bs ++ (step_lines l [] (take n out') ++ line (codes "runs"))) heading_is
              ∙ ap (λ (xs : List ℕ). chart_line c ++ (step_lines l [] xs ++ line (codes "runs"))) (ap (take n) r.written ∙ take_at w (drop (length w) out) n (sym r.long));
        })

    ring_told : (n : ℕ) (ring : List ℕ) → StuckBy free L [] n out out' ring → bytes ≡ heading_line l ++ ([] ++ line (spaced (codes "stuck" ∷ map (instance_name l) (take 32 (take n out'))))) → TellsText text bytes
    ring_told n ring r are =
        gets_stuck c writes static
        (record {
          never = r.never;
          rest = r.rest;
          lowest = r.lowest;
          ended = r.ended;
          ring = ring;
          ring_there = r.ring_there;
          ring_everywhere = r.ring_everywhere;
          names = map (instance_name l) ring;
          named = ring_named r.rest ring r.ring_there.first (leads_right (Waits free L r.rest) r.ring_there.lead ring r.ring_there.first r.ring_there.waits);
          bytes_are =
              are ∙ ap (λ (bs : List ℕ). bs ++ line (spaced (codes "stuck" ∷ map (instance_name l) (take 32 (take n out'))))) heading_is
              ∙ ap (λ (xs : List ℕ). chart_line c ++ line (spaced (codes "stuck" ∷ map (instance_name l) xs)))
              (ap (take 32) (ap (take n) r.written ∙ take_at ring (drop (length ring) out) n (sym r.long)) ∙ take_all 32 ring (ring_few r.rest ring static.sound.few_instances r.ring_there));
        })

-- what is shown of a text is what it tells
pub tells : (text bytes : List ℕ) → Shows text bytes → TellsText text bytes
tells text bytes h = go (read_as greatest (sentences text)) refl h
  where
    by_verdict : (a : Answer) (l : Listing) (x : ListsText text a l) (c : ChartText) → Writes text c → Static c → Builds text c a (tables_of greatest (items_in (sentences text))) → (v : Verdict) (out out' : List ℕ) → Judges free (lists_of c) [] out v out' →
        bytes ≡ heading_line l ++ (order_lines l v out' ++ verdict_line l v out') → TellsText text bytes
    by_verdict a l x c w k b (Runs n) out out' j are = order_told text c a (tables_of greatest (items_in (sentences text))) l b x.text_is x.answer_is x.holds w k bytes out out' n j.0 j.1 are
    by_verdict a l x c w k b (Stuck n) out out' j are = ring_told text c a (tables_of greatest (items_in (sentences text))) l b x.text_is x.answer_is x.holds w k bytes out out' n j.0 j.1 are

    go : (r : Result Answer Fault) → read_as greatest (sentences text) ≡ r → ShowsRead text r bytes → TellsText text bytes
    go (Err f) read h = refused f (first_fault text f read) h
    go (Ok a) read h =
        let t = tables_of greatest (items_in (sentences text)) in
        let k = takes_ok text greatest a t read refl in
        let x = h.1 in
        let s = h.2 in
        by_verdict a h.0 x k.0 k.1 k.2 k.3 s.verdict s.before s.written
        (subst (λ (L : List (List Event)). Judges free L [] s.before s.verdict s.written) (chart_is text k.0 a t h.0 k.3 x.text_is x.answer_is x.holds) s.judges) s.bytes_are
