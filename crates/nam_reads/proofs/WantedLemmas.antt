-- The newest version that a snapshot sees: that there is one, and how it is told from others.
use Rattle.std.proofs.Common.{List, ap, arith, eqb, false, inl, inr, slice_get, subst, suc, sym, true, zero, ℕ, ◌+◌}
use Rattle.std.proofs.Common.{◌<◌, ◌∙◌, ◌≡◌, ◌≢◌, ◌≤◌}
use Rattle.std.proofs.Math.Arith.{lt_of_le-ne}
use Rattle.std.proofs.lemmas.Bool.{and_from, and_parts, cases_Bool, cases_eq, cases_order, eq-eqb, eqb-true, true≢false}
use Rattle.std.proofs.lemmas.List.{length_push}
use Rattle.std.proofs.lemmas.Option.{same_Some, slice_get_within}
use Rattle.nam_catalog.specs.declared.form.Form.{Form}
use Rattle.nam_catalog.specs.declared.shape.Shape.{Shape}
use Rattle.nam_ghost.proofs.ListLemmas.{got_end}
use Rattle.nam_ghost.proofs.RecordLemmas.{header_says}
use Rattle.nam_ghost.specs.Slots.{Ring}
use Rattle.nam_ghost.specs.Versions.{Chain, IsNth, Version, current_header, current_number, record_image, versions}
use Rattle.nam_ghost.specs.Wanted.{Wanted}
use Rattle.nam_header.specs.Header.{header_of}
use Rattle.nam_header.specs.Stamp.{same_stamp, sees, stamp_in}
use Rattle.nam_header.specs.Visible.{is_visible}
use Rattle.nam_header.specs.declared.header.Header.{Header}
use Rattle.nam_layout.specs.Rows.{width_at}
use Rattle.nam_layout.specs.declared.field.Field.{Field}
use Rattle.nam_reads.specs.Facts.{RowFacts}
use Rattle.nam_store.proofs.Lists.{some_within}
use Rattle.si_model.specs.declared.log.Stamp.{Stamp}
use Rattle.nam_layout.specs.declared.field.Field.TheVariants as field

-- 1. Stamps and headers

module _ (form : Form) (a b : ℕ) where
  pub stamps_same : same_stamp form a b ≡ true → stamp_in form a ≡ stamp_in form b
  stamps_same is =
      let one = stamp_in form a in
      let two = stamp_in form b in
      let parts = and_parts (eqb one.thread two.thread) (eqb one.number two.number) is in
      let thread = eqb-true one.thread two.thread parts.0 in
      let number = eqb-true one.number two.number parts.1 in
      (λ k. record { thread = thread k; number = number k })

  pub same_stamps : stamp_in form a ≡ stamp_in form b → same_stamp form a b ≡ true
  same_stamps is =
      let one = stamp_in form a in
      let two = stamp_in form b in
      and_from (eqb one.thread two.thread) (eqb one.number two.number)
      (eq-eqb one.thread two.thread (ap (λ (s : Stamp). s.thread) is))
      (eq-eqb one.number two.number (ap (λ (s : Stamp). s.number) is))

module _ {shape : Shape} {m : Field → ℕ} {row : ℕ} {seen : List ℕ} {chain : Chain} {ring : Ring}
    {Elsewhere : ℕ → Type 0} (facts : RowFacts shape m row seen chain ring Elsewhere) where
  -- 2. The current version

  pub now_last : IsNth chain (current_number chain) chain.now
  now_last = got_end chain.old chain.now

  pub nth_within : (number : ℕ) (version : Version) → IsNth chain number version → number ≤ current_number chain
  nth_within number version is =
      let less = slice_get_within (versions chain) number version is in
      let long = length_push chain.old chain.now in
      omega arith

  pub now_header : header_of shape.form (m (field.Header row)) ≡ current_header shape.form chain.holder chain.now
  now_header =
      header_says shape.form shape.workers (width_at shape.tables row) (record_image m row) chain
      facts.limits.most_workers facts.record_is

  -- its stamp, as words and as snapshots see it
  pub now_stamp : stamp_in shape.form (m (field.Header row)) ≡ chain.now.stamp
  now_stamp = ap (λ (h : Header). h.stamp) now_header

  pub now_sees : sees shape.form seen (m (field.Header row)) ≡ is_visible chain.now.stamp seen
  now_sees = ap (λ (s : Stamp). is_visible s seen) now_stamp

  -- 3. The wanted version

  abbrev Newest : Type 0
  Newest = (number : ℕ) × (version : Version) × Wanted seen chain number version

  pub newest : Newest
  newest = from (current_number chain) (chain.now, now_last)
      (λ n v less is. let within = nth_within n v is in absurd (omega arith))
    where
      -- all above this one are hidden
      from : (most : ℕ) → ((version : Version) × IsNth chain most version)
          → ((n : ℕ) (newer : Version) → most < n → IsNth chain n newer → is_visible newer.stamp seen ≡ false)
          → Newest
      from zero there newer =
          (0, there.0, record { is = there.1; sees = facts.first there.0 there.1; newer = newer })
      from (suc most) there newer = elim (cases_Bool (is_visible there.0.stamp seen)) [
        | inl sees ↦ (suc most, there.0, record { is = there.1; sees = sees; newer = newer })
        | inr hides ↦
            let less = slice_get_within (versions chain) (suc most) there.0 there.1 in
            from most (some_within (versions chain) most (omega arith))
            (λ n v more is. elim (cases_eq n (suc most)) [
              | inl same ↦ subst (λ (u : Version). is_visible u.stamp seen ≡ false)
                  (same_Some there.0 v (sym there.1 ∙ ap (slice_get (versions chain)) (sym same) ∙ is)) hides
              | inr apart ↦ newer n v (lt_of_le-ne (omega arith) (λ e. apart (sym e))) is
            ])
      ]

  module _ {number : ℕ} {version : Version} (wanted : Wanted seen chain number version) where
    pub wanted_is : (other : Version) → IsNth chain number other → version ≡ other
    wanted_is other is = same_Some version other (sym wanted.is ∙ is)

    pub now_is : number ≡ current_number chain → version ≡ chain.now
    now_is same = wanted_is chain.now (ap (slice_get (versions chain)) same ∙ now_last)

    pub is_old : number ≢ current_number chain → number < current_number chain
    is_old apart = lt_of_le-ne (nth_within number version wanted.is) apart

    pub by_stamp : chain.now.stamp ≡ version.stamp → number ≡ current_number chain
    by_stamp same = facts.once number (current_number chain) version chain.now wanted.is now_last (sym same)

    -- the next version isn't visible
    pub next_hidden : (next : Version) → IsNth chain (number + 1) next → is_visible next.stamp seen ≡ false
    next_hidden next is = wanted.newer (number + 1) next (omega arith) is

    -- a visible version whose next one isn't is the wanted one
    pub only : (n : ℕ) (v : Version) → IsNth chain n v → is_visible v.stamp seen ≡ true
        → ((next : Version) → IsNth chain (n + 1) next → is_visible next.stamp seen ≡ false) → n ≡ number
    only n v is sees hides = elim (cases_order n number) [
      | inl same ↦ same
      | inr (inl less) ↦ absurd (below less)
      | inr (inr more) ↦ absurd (true≢false (sym sees ∙ wanted.newer n v more is))
    ]
      where
        below : n < number → ⊥
        below less =
            let within = slice_get_within (versions chain) number version wanted.is in
            let next = some_within (versions chain) (n + 1) (omega arith) in
            true≢false (sym (seen_next next) ∙ hides next.0 next.1)
          where
            seen_next : (next : (u : Version) × IsNth chain (n + 1) u) → is_visible next.0.stamp seen ≡ true
            seen_next next = elim (cases_eq (n + 1) number) [
              | inl same ↦ subst (λ (u : Version). is_visible u.stamp seen ≡ true)
                  (wanted_is next.0 (ap (slice_get (versions chain)) (sym same) ∙ next.1)) wanted.sees
              | inr apart ↦
                  facts.front (n + 1) number next.0 version (lt_of_le-ne (omega arith) apart) next.1 wanted.is
                  wanted.sees
            ]
