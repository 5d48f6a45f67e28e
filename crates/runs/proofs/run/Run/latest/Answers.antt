use Rattle.std.proofs.Common.{ℕ, ◌+◌, ◌<◌, length, sym, ap, ◌∙◌, subst}
use Rattle.copies.specs.declared.indexed.Indexed.{Indexed}
use Rattle.copies.specs.Kept.{kept}
use Rattle.copies.proofs.Kept.{kept_sound}
use Rattle.orders.specs.Deciding.{unfinished}
use Rattle.orders.specs.Driving.{lowest}
use Rattle.rules.specs.Places.{place_of}
use Rattle.rules.specs.Held.{some_below}
use Rattle.rules.specs.Drove.{most_steps}
use Rattle.rules.proofs.Ended.{most_steps_is}
use Rattle.rules.proofs.Made.{made_length}
use Rattle.rules.proofs.Drove.{below_some, below_none}
use Rattle.runs.specs.Latests.{LatestAnswers}
use Rattle.runs.proofs.Telling.{tells_sound}
use Rattle.runs.proofs.Places.{latest_place_is, latest_is_none, ends_level, room, below_count, at_least, made_few, place_fits, place_fits_more, one_more}
use Rattle.runs.proofs.run.Run.latest.Goals as goal

pub overflow_add-result : goal.overflow_add-result
overflow_add-result g c =
    let b = c.args.self.now.board in
    let L = kept b.copy in
    place_fits c.made.result c.len-made.result (made_few L (kept_sound b.copy) (place_of b.rows.table) b.within c.made.result c.made.ensures) c.len-made.ensures.fits

pub overflow_add-result-in-None : goal.overflow_add-result-in-None
overflow_add-result-in-None g c =
    let b = c.args.self.now.board in
    let L = kept b.copy in
    place_fits_more c.made.result c.len-made.result (made_few L (kept_sound b.copy) (place_of b.rows.table) b.within c.made.result c.made.ensures) c.len-made.ensures.fits

pub returns-in-None : goal.returns-in-None
returns-in-None g c h s =
    let b = c.args.self.now.board in
    let L = kept b.copy in
    let M = g.M.Medium.carries c.args.self.now.medium in
    let i = c.args.i in
    let k = c.args.k in
    let d = c.drive_to_end in
    let e = c.drive_to_end-2 in
    let mid = d.new.self.rows.table in
    let end = e.new.self.rows.table in
    let enough = room (kept_sound b.copy).few_events most_steps_is in
    let ends = ends_level M d.new.self.copy b.copy d.ensures.keeps mid end most_steps e.ensures.moves in
    let done = below_none (length L) (lowest (unfinished L (place_of end)) (length L)) (c.in-None.ensures ∙ ap (λ (x : Indexed). some_below (length (kept x)) (lowest (unfinished (kept x) (place_of end)) (length (kept x)))) (e.ensures.keeps ∙ d.ensures.keeps)) in
    tells_sound b.copy.fault _ (LatestAnswers M L h i k) _ (sym c.check.ensures ∙ c.in_ok-check.was)
    (latest_place_is M L (kept_sound b.copy) b.rows.table mid end i k most_steps most_steps enough enough d.ensures.moves ends h s
    (below_count c.if-k-count.false c.count.ensures) (at_least c.if-k-position.false c.position.ensures)
    (c.made.result + c.len-made.result + 1) done
    (one_more c.made.result c.len-made.result (length h) _ (c.made.ensures ∙ made_length L (place_of b.rows.table) h b.within s) (c.len-made.ensures.value ∙ ap length d.ensures.steps)))

pub returns-in-Some : goal.returns-in-Some
returns-in-Some g c h s =
    let b = c.args.self.now.board in
    let L = kept b.copy in
    let M = g.M.Medium.carries c.args.self.now.medium in
    let i = c.args.i in
    let k = c.args.k in
    let d = c.drive_to_end in
    let e = c.drive_to_end-2 in
    let mid = d.new.self.rows.table in
    let end = e.new.self.rows.table in
    let enough = room (kept_sound b.copy).few_events most_steps_is in
    let ends = ends_level M d.new.self.copy b.copy d.ensures.keeps mid end most_steps e.ensures.moves in
    let some = below_some (length L) (lowest (unfinished L (place_of end)) (length L)) c.in-Some.field-0 (c.in-Some.ensures ∙ ap (λ (x : Indexed). some_below (length (kept x)) (lowest (unfinished (kept x) (place_of end)) (length (kept x)))) (e.ensures.keeps ∙ d.ensures.keeps)) in
    tells_sound b.copy.fault _ (LatestAnswers M L h i k) _ (sym c.check.ensures ∙ c.in_ok-check.was)
    (latest_is_none M L (kept_sound b.copy) b.rows.table mid end i k most_steps most_steps enough enough d.ensures.moves ends h s
    (below_count c.if-k-count.false c.count.ensures) (at_least c.if-k-position.false c.position.ensures)
    (subst (λ (x : ℕ). x < length L) (sym some.0) some.1))
