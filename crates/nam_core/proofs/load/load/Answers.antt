use Rattle.std.proofs.Common.{◌≡◌, ℕ, ◌+◌, ◌<◌, ◌≤◌, List, length, ap, sym, ◌∙◌, subst}
use Rattle.std.specs.Prelude.{slice_index}
use Rattle.nam_layout.specs.Place.{place_at}
use Rattle.nam_calls.specs.Words.{on_path, path_of}
use Rattle.nam_calls.specs.Index.{nth_position}
use Rattle.nam_calls.proofs.FallsTables.{has_capacity}
use Rattle.nam_protocol.specs.Opening.{with_row}
use Rattle.nam_core.proofs.LoadLemmas.{spot_is, key_is, load_here, load_later, load_ends, wide, key_within}
use Rattle.nam_core.proofs.LoadLemmas.{place_within}
use Rattle.nam_core.proofs.load.load.Goals as goal

pub first_on_path-position-requires : goal.first_on_path-position-requires
first_on_path-position-requires c =
    subst (λ n. 1 ≤ n) (sym c.capacity-capacity.ensures)
    (has_capacity c.args.layout.now c.total-words.ensures.fits c.args.row.now.table c.requires.of.table_is)

pub bounds-words-place : goal.bounds-words-place
bounds-words-place c =
    let place = c.place-place.result in
    subst (λ n. place.key_at < n) (sym (ap length c.loop.invariant.same ∙ c.requires.long))
    (key_within c.args.layout.now c.args.row.now c.total-words.ensures.fits c.requires.of c.loop.position
    c.loop.invariant.within place c.place-place.ensures.value)

pub put_row-requires-clause-wide : goal.put_row-requires-clause-wide
put_row-requires-clause-wide c =
    wide c.args.layout.now c.args.row.now c.total-words.ensures.fits c.requires.of c.loop.position
    c.loop.invariant.within c.place-place.result c.place-place.ensures.value

pub put_row-requires-clause-within : goal.put_row-requires-clause-within
put_row-requires-clause-within c =
    let place = c.place-place.result in
    subst (λ n. place.words_at + place.width ≤ n) (sym (ap length c.loop.invariant.same ∙ c.requires.long))
    (place_within c.args.layout.now c.args.row.now c.total-words.ensures.fits c.requires.of c.loop.position
    c.loop.invariant.within place c.place-place.ensures.value)

pub returns-then-words-place-eq0-clause-value : goal.returns-then-words-place-eq0-clause-value
returns-then-words-place-eq0-clause-value c =
    let shape = c.args.layout.now in
    let row = c.args.row.now in
    let old = c.args.words.now in
    let place = c.place-place.result in
    let passed = c.loop.counter in
    let same = c.loop.invariant.same in
    let stands = c.loop.invariant.stands in
    let path = path_of shape row.table row.key in
    let at = path.row + nth_position path passed in
    let free = key_is shape row passed c.loop.position place old stands c.place-place.ensures.value
    ∙ ap (λ (ws : List ℕ). slice_index ws place.key_at) (sym same) ∙ c.if-words-place-eq0.true in
    let less = subst (λ n. passed < n) c.capacity-capacity.ensures c.loop-test.true in
    c.put_row.ensures.value shape at
    (c.place-place.ensures.value ∙ ap (place_at shape) (sym (spot_is shape row passed c.loop.position stands)))
    ∙ ap (with_row shape at row) same ∙ sym (load_here shape row passed old less free) ∙ c.loop.invariant.rest

pub loop-preserved : goal.loop-preserved
loop-preserved c =
    let shape = c.args.layout.now in
    let row = c.args.row.now in
    let old = c.args.words.now in
    let place = c.place-place.result in
    let passed = c.loop.counter in
    let next = c.next_on_path-position.result in
    let same = c.loop.invariant.same in
    let stands = c.loop.invariant.stands in
    let capacity = c.capacity-capacity.ensures in
    let less = subst (λ n. passed < n) capacity c.loop-test.true in
    record {
      within = subst (λ n. next < n) capacity c.next_on_path-position.ensures.within;
      stands =
          subst (λ n. next ≡ on_path n row.key (passed + 1)) capacity
          (c.next_on_path-position.ensures.value row.key passed
          (subst (λ n. c.loop.position ≡ on_path n row.key passed) (sym capacity) stands));
      rest =
          sym
          (load_later shape row passed old less (λ none.
          c.if-words-place-eq0.false
          (ap (λ (ws : List ℕ). slice_index ws place.key_at) same
          ∙ sym (key_is shape row passed c.loop.position place old stands c.place-place.ensures.value)
          ∙ none)))
          ∙ c.loop.invariant.rest;
      same = same;
    }

pub returns-clause-value : goal.returns-clause-value
returns-clause-value c =
    let past = subst (λ n. n ≤ c.loop.counter) c.capacity-capacity.ensures c.loop-test.false in
    c.loop.invariant.same ∙ sym (load_ends c.args.layout.now c.args.row.now c.loop.counter c.args.words.now past)
    ∙ c.loop.invariant.rest
