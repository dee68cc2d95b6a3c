-- Publications and what is listed of them: while key words stand, with one more published, and with one more listed.
use Rattle.std.proofs.Common.{List, Some, [], arith, length, subst, sym, ℕ, ⊎_elim, ◌++◌, ◌<◌, ◌∙◌, ◌∷◌, ◌≡◌}
use Rattle.std.proofs.lemmas.List.{length_push}
use Rattle.std.proofs.lemmas.Option.{same_Some, slice_get_within}
use Rattle.nam_catalog.specs.declared.shape.Shape.{Shape}
use Rattle.nam_ghost.proofs.ListLemmas.{got_listed, got_push}
use Rattle.nam_ghost.specs.Keys.{KeysNext}
use Rattle.nam_ghost.specs.Origins.{IsListedAs}
use Rattle.nam_ghost.specs.Publications.{Publication}
use Rattle.nam_layout.specs.Address.{IsRow}
use Rattle.nam_layout.specs.declared.field.Field.{Field}
use Rattle.nam_origins.proofs.ListLemmas.{last_got}
use Rattle.nam_origins.specs.Lists.{Matches}
use Rattle.si_model.specs.Commits.{Published}
use Rattle.si_model.specs.Lists.{Listed, last_of}

module _ (shape : Shape) (m now : Field → ℕ) (next : KeysNext shape m now) where
  -- a written record bears its key, so its key word stays
  pub listed_still : (commit : Publication) (line : Published)
      → ((p : ℕ) → p < commit.records → IsRow shape (commit.row p)) → IsListedAs shape m commit line
      → IsListedAs shape now commit line
  listed_still commit line rows is = record {
    stamp_is = is.stamp_is;
    seen_is = is.seen_is;
    writes_are = is.writes_are;
    each = λ p item here.
        let each = is.each p item here in
        let less = slice_get_within line.line.writes p item here in
        let writes = is.writes_are in
        let bears = each.1 in
        (each.0, next (commit.row p) (rows p (omega arith)) (λ none. absurd (omega arith)) ∙ bears, each.2);
  }

  pub matches_still : (published : List Publication) (listed : List Published) (late : ℕ)
      → ((commit : Publication) → Listed commit published → (p : ℕ) → p < commit.records → IsRow shape (commit.row p))
      → Matches shape m published listed late → Matches shape now published listed late
  matches_still published listed late rows all = record {
    count = all.count;
    each = λ k commit line here there.
        listed_still commit line (rows commit (got_listed published k commit here)) (all.each k commit line here there);
  }

module _ (shape : Shape) (m : Field → ℕ) (published : List Publication) (listed : List Published) where
  -- the new publication isn't listed yet
  pub matches_published : (commit : Publication) → Matches shape m published listed 0
      → Matches shape m (published ++ commit ∷ []) listed 1
  matches_published commit all = record {
    count = (let c = all.count in let l = length_push published commit in omega arith);
    each = λ k other line here there.
        ⊎_elim (λ old. all.each k other line old there)
        (λ (new : (k ≡ length published) × (commit ≡ other)).
        let less = slice_get_within listed k line there in let c = all.count in let e = new.0 in absurd (omega arith))
        (got_push published commit other k here);
  }

  -- the last publication is listed
  pub matches_listed : (commit : Publication) (line : Published) → last_of published ≡ Some commit
      → IsListedAs shape m commit line → Matches shape m published listed 1
      → Matches shape m published (listed ++ line ∷ []) 0
  matches_listed commit line last is all = record {
    count = (let c = all.count in let l = length_push listed line in omega arith);
    each = λ k other one here there.
        ⊎_elim (λ old. all.each k other one here old)
        (λ (new : (k ≡ length listed) × (line ≡ one)).
        let c = all.count in let e = new.0 in
        let same : commit ≡ other = same_Some commit other
        (sym (last_got published commit k last (omega arith)) ∙ here) in
        subst (λ (t : Publication × Published). IsListedAs shape m t.0 t.1) (λ i. (same i, new.1 i)) is)
        (got_push listed line one k there);
  }
