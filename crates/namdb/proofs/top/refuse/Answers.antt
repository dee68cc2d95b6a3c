use Rattle.std.proofs.Common.{ap, inl}
use Rattle.namdb.specs.Status.{line_of}
use Rattle.namdb.proofs.top.refuse.Goals as goal

pub returns-in-Usage-clause-line : goal.returns-in-Usage-clause-line
returns-in-Usage-clause-line g c = rw (ap line_of c.in-Usage.is) (λ _. inl c.end_with.ensures)

pub returns-in-ReadFault-clause-line : goal.returns-in-ReadFault-clause-line
returns-in-ReadFault-clause-line g c = rw (ap line_of c.in-ReadFault.is) (λ _. inl c.end_with-in-ReadFault.ensures)

pub returns-in-TooLong-clause-line : goal.returns-in-TooLong-clause-line
returns-in-TooLong-clause-line g c = rw (ap line_of c.in-TooLong.is) (λ _. inl c.end_with-in-TooLong.ensures)

pub returns-in-Ok-clause-line : goal.returns-in-Ok-clause-line
returns-in-Ok-clause-line g c =
    rw (ap line_of c.in-BadScript.is, ← c.in-Ok.ensures, ← c.as_bytes.ensures.value, c.in-BadScript.is)
    (λ _. inl c.end_with-in-Ok.ensures)
