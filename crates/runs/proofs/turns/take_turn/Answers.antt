use Rattle.std.proofs.Common.{◌≡◌, ℕ, List, length, vec_items, sym, refl, ap, ◌∙◌, subst}
use Rattle.std.specs.Vec.{with_items}
use Rattle.std.proofs.lemmas.List.{with_items_is}
use Rattle.copies.specs.Kept.{kept}
use Rattle.runs.specs.Made.{MakesCall}
use Rattle.runs.proofs.turns.take_turn.Goals as goal

pub returns : goal.returns
returns g c =
    let b = c.args.run.now.board in
    let L = kept b.copy in
    let M = g.M.Medium.carries c.args.run.now.medium in
    let x = c.args.turn.now in
    let m = c.make_call-answer in
    let was = c.as_mut_slice.ensures.value in
    let long : length m.new.buffer ≡ x.buffer.len = m.auto.buffer ∙ ap length was ∙ sym x.buffer.ok.0 in
    let is = with_items_is x.buffer m.new.buffer long in
    let rows = m.new.run.board.rows.table in
    record {
      keeps = (m.ensures.keeps.0, m.ensures.keeps.1);
      makes = λ h s.
          record {
            call = refl;
            answer = m.result;
            noted = refl;
            room = ap (with_items x.buffer) (sym is);
            made =
                subst (λ (out : List ℕ). MakesCall b.copy.fault M L h x.call out m.result (vec_items (with_items x.buffer m.new.buffer)) rows) was
                (subst (λ (out : List ℕ). MakesCall b.copy.fault M L h x.call c.as_mut_slice.result.now m.result out rows) (sym is) (m.ensures.makes h s));
          };
    }
