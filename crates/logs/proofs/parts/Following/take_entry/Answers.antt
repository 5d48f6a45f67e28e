use Rattle.logs.proofs.parts.Following.take_entry.Goals as goal

pub returns-in-Ok-clause-takes : goal.returns-in-Ok-clause-takes
returns-in-Ok-clause-takes g c h s =
    let t = c.in-Ok.ensures.takes h s in
    (t.0, c.more.ensures, t.1)

pub returns-in-Err-clause-takes : goal.returns-in-Err-clause-takes
returns-in-Err-clause-takes g c h s = (c.in-Err.cause, c.refuse.ensures, c.in-Err.ensures.takes h s)
