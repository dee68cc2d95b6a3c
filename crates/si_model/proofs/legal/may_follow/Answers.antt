use Rattle.std.proofs.Common.{◌≡◌, ◌<◌, ◌≤◌, ◌-◌, ◌^◌, [], length, map, take, drop, sym, ◌∙◌, ap, subst, arith}
use Rattle.std.specs.Prelude.{All, Decides, slice_index_or}
use Rattle.std.proofs.lemmas.Result.{IfOk-weaker}
use Rattle.std.proofs.lemmas.List.{length-map, take_all, length-drop}
use Rattle.si_model.specs.Rows.{rows_of}
use Rattle.si_model.specs.State.{state_at}
use Rattle.si_model.specs.Gives.{Gives}
use Rattle.si_model.specs.History.{MayFollow}
use Rattle.si_model.specs.Evaluation.{evaluation_of, OpFits}
use Rattle.si_model.proofs.LegalLemmas.{at_job, given_follows, follows_given}
use Rattle.si_model.proofs.legal.may_follow.Goals as goal

pub evaluated_at-requires-clause-fits : goal.evaluated_at-requires-clause-fits
evaluated_at-requires-clause-fits c =
    let found = c.in-Some.ensures.found in
    subst (All (OpFits c.args.widths.now)) (sym found.2)
    (at_job (λ job. job.items) (All (OpFits c.args.widths.now)) c.args.jobs.now (c.args.entry.now.txn - 1)
    c.requires.fits (omega (arith, found.0, found.1)))

pub evaluated_at-requires-clause-short : goal.evaluated_at-requires-clause-short
evaluated_at-requires-clause-short c =
    let found = c.in-Some.ensures.found in
    subst (λ ops. length ops < 2 ^ 32) (sym found.2)
    (at_job (λ job. job.items) (λ ops. length ops < 2 ^ 32) c.args.jobs.now (c.args.entry.now.txn - 1)
    c.requires.short (omega (arith, found.0, found.1)))

pub returns : goal.returns
returns c =
    let rows = rows_of c.args.rows.now in
    let jobs = map (λ job. job.items) c.args.jobs.now in
    let entry = c.args.entry.now in
    let found = c.in-Some.ensures.found in
    let prefix : entry.prefix ≤ length c.args.done.now = omega arith in
    let seen = state_at rows (take entry.prefix c.args.done.now) in
    let evaluated : c.in_ok-evaluated.evaluated
    ≡ evaluation_of c.args.widths.now seen (slice_index_or jobs (entry.txn - 1) []) =
    c.in_ok-evaluated.ensures ∙ ap (evaluation_of c.args.widths.now seen) found.2 in
    let rest = drop entry.prefix c.args.done.now in
    let all : take (length c.args.done.now - entry.prefix) rest ≡ rest =
    take_all (length c.args.done.now - entry.prefix) rest (omega (arith, length-drop entry.prefix c.args.done.now))
    in
    IfOk-weaker c.gives.result (λ b. Decides b
    (Gives c.in_ok-evaluated.evaluated c.as_slice.result.now (take (length c.args.done.now - entry.prefix) rest)))
    (λ b. Decides b (MayFollow c.args.widths.now rows jobs c.args.done.now entry))
    (λ b told.
    let here = subst
    (λ ws. Decides b (Gives c.in_ok-evaluated.evaluated ws (take (length c.args.done.now - entry.prefix) rest)))
    c.as_slice.ensures told in
    let since = subst (λ zs. Decides b (Gives c.in_ok-evaluated.evaluated entry.writes zs)) all here in
    let there = subst (λ e. Decides b (Gives e entry.writes rest)) evaluated since in (
      λ yes. given_follows c.args.widths.now rows jobs c.args.done.now entry found.0
          (omega (arith, found.1, length-map c.args.jobs.now (λ job. job.items))) prefix (there.0 yes),
      λ may. there.1 (follows_given c.args.widths.now rows jobs c.args.done.now entry may),
    ))
    c.gives.ensures
