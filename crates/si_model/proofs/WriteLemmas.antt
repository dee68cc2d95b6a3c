-- One more key, by whether it stands there.
use Rattle.std.proofs.Common.{◌≡◌, Bool, true, false, List, [], ◌∷◌, ◌++◌}
use Rattle.std.proofs.Common.{refl, arith}
use Rattle.std.specs.List.{list_any}
use Rattle.std.proofs.lemmas.Bool.{false≢true}
use Rattle.std.proofs.lemmas.Bool.Decides.{nat_tests}
use Rattle.si_model.specs.declared.row.Key.{Key}
use Rattle.si_model.specs.declared.row.Item.{Item}
use Rattle.si_model.specs.Rows.{same_key, item_key, has_key, writes_key}
use Rattle.si_model.specs.Evaluation.{with_guard}

-- is the item of the key
abbrev pub is_of : Key → Item → Bool
is_of key i = same_key (item_key i) key

-- a key that is written is one of the items'
pub writes_key_is : (ws : List Item) (key : Key) → list_any (is_of key) ws ≡ writes_key ws key
writes_key_is [] key = refl
writes_key_is (w ∷ ws) key = let rest = writes_key_is ws key in grind (arith, nat_tests)

-- a key that is there stays
pub guarded_has : (ks : List Key) (key : Key) → has_key ks key ≡ true → with_guard ks key ≡ ks
guarded_has [] key there = absurd (false≢true there)
guarded_has (k ∷ ks) key there = let rest = guarded_has ks key in grind (arith, nat_tests)

-- and another comes last
pub guarded_new : (ks : List Key) (key : Key) → has_key ks key ≡ false → with_guard ks key ≡ ks ++ key ∷ []
guarded_new [] key there = refl
guarded_new (k ∷ ks) key there = let rest = guarded_new ks key in grind (arith, nat_tests)
