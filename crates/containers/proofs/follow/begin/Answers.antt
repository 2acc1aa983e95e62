use Rattle.containers.proofs.follow.begin.Goals as goal

pub returns-then-starts-clause-begins : goal.returns-then-starts-clause-begins
returns-then-starts-clause-begins c = λ of starts follows. c.begin_instance.ensures.state of follows
