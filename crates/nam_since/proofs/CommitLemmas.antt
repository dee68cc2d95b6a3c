-- What a commit has seen of the records that it has locked, when it is about to publish: each version but its own.
use Rattle.std.proofs.Common.{List, Option, ap, arith, inl, inr, subst, suc, sym, true, zero, ℕ, ⊎_elim, ◌+◌, ◌<◌, ◌∙◌}
use Rattle.std.proofs.Common.{◌≡◌, ◌⊎◌}
use Rattle.std.proofs.lemmas.Bool.{cases_order}
use Rattle.std.proofs.lemmas.List.{length_push}
use Rattle.std.proofs.lemmas.Option.{same_Some, slice_get_within}
use Rattle.std.specs.Prelude.{slice_get}
use Rattle.nam_ghost.proofs.ListLemmas.{got_end, listed_got}
use Rattle.nam_ghost.proofs.OrderLemmas.{IsSnap, sees_front}
use Rattle.nam_ghost.specs.Chains.{ChainOk}
use Rattle.nam_ghost.specs.Moments.{AreObservers, Observer}
use Rattle.nam_ghost.specs.Versions.{Chain, IsNth, IsVersion, Version, current_number, versions}
use Rattle.nam_header.specs.Visible.{is_visible}
use Rattle.nam_since.proofs.SightLemmas.{none_after, seen_by}
use Rattle.si_model.specs.declared.log.Stamp.{Stamp}

-- of one chain, and a snapshot that was taken
module _ (start workers : ℕ) (V : ℕ → ℕ) (observers : List Observer) (ok : AreObservers start workers V observers)
    (width : ℕ) (chain : Chain) (chain_ok : ChainOk width observers chain) (seen : List ℕ) where
  -- two versions of one number are one
  same_version : (a b : ℕ) (u v : Version) → a ≡ b → IsNth chain a u → IsNth chain b v → u ≡ v
  same_version a b u v e at is = same_Some u v (sym at ∙ ap (slice_get (versions chain)) e ∙ is)

  -- 1. A record that it has written: no version comes after its own, since its number isn't published

  module _ (stamp : Stamp) (nth : ℕ) (within : nth < workers) (thread : stamp.thread ≡ nth + 1)
      (new : V nth < stamp.number) (value : Option (List ℕ)) where
    abbrev own : Version
    own = record { stamp = stamp; value = value; seen = seen }

    after_own : (version : Version) (a b : ℕ) → b < a → IsNth chain a version → IsNth chain b own → ⊥
    after_own version zero b less at is = absurd (omega arith)
    after_own version (suc a) b less at is =
        let next : suc a ≡ a + 1 = omega arith in
        none_after start workers V observers ok width chain chain_ok b a own version (omega arith) is
        (subst (λ n. IsNth chain n version) next at) nth within thread new

    pub written_seen : (version : Version) → IsVersion chain own → IsVersion chain version
        → (version.stamp ≡ stamp) ⊎ (is_visible version.stamp seen ≡ true)
    written_seen version has is =
        let a = listed_got (versions chain) version is in
        let b = listed_got (versions chain) own has in
        ⊎_elim (λ (e : a.0 ≡ b.0).
        inl (ap (λ (v : Version). v.stamp) (same_version a.0 b.0 version own e a.1 b.1)))
        (λ apart. ⊎_elim (λ (less : a.0 < b.0).
        inr (seen_by start workers V observers ok width chain chain_ok a.0 b.0 version own less a.1 b.1))
        (λ (less : b.0 < a.0). absurd (after_own version a.0 b.0 less a.1 b.1)) apart)
        (cases_order a.0 b.0)

  -- 2. A record that it holds: it sees the current version, and so all before

  pub held_seen : IsSnap observers seen → is_visible chain.now.stamp seen ≡ true
      → (version : Version) → IsVersion chain version → is_visible version.stamp seen ≡ true
  held_seen snap sees version is =
      let a = listed_got (versions chain) version is in
      let now = got_end chain.old chain.now in
      let last = length_push chain.old chain.now in
      let within = slice_get_within (versions chain) a.0 version a.1 in
      ⊎_elim (λ (e : a.0 ≡ current_number chain).
      subst (λ (v : Version). is_visible v.stamp seen ≡ true)
      (sym (same_version a.0 (current_number chain) version chain.now e a.1 now)) sees)
      (λ apart. ⊎_elim (λ (less : a.0 < current_number chain).
      sees_front start workers V observers ok width chain chain_ok seen snap a.0 (current_number chain) version
      chain.now less a.1 now sees)
      (λ (less : current_number chain < a.0). absurd (omega arith)) apart)
      (cases_order a.0 (current_number chain))
