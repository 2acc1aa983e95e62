use Rattle.trace.proofs.text.stays_fresh.Goals as goal

pub returns-then-is_fresh : goal.returns-then-is_fresh
returns-then-is_fresh c e = (c.if-is_fresh.true, λ heeds roll said ahead. c.keeps_pods.ensures e heeds roll said ahead)
