-- Keys of calls.
use Rattle.std.proofs.Common.{◌≡◌, Bool, true, false, not, ◌||◌, [], ◌∷◌, Some, None, refl, sym, ◌∙◌, ap}
use Rattle.std.specs.Prelude.{if◌then◌else◌}
use Rattle.std.specs.List.{list_any}
use Rattle.std.proofs.lemmas.Bool.{and_parts}
use Rattle.desk_types.specs.declared.command.Call.{Call}
use Rattle.desk_history.specs.Calls.{History, Item, are_apart, has_same_key, is_same_item}
use Rattle.desk_history.specs.declared.rows.Minute.{Minute}
use Rattle.desk_history.specs.Replies.{minute_of, minutes}
use Rattle.desk_history.specs.Laws.{KeysStandOnce, is_call_key}
use Rattle.desk_history.specs.Runs.{earlier}
use Rattle.desk_history.proofs.ListLemmas.{apart-more}
use Rattle.desk_history.proofs.RunLemmas.{newest}

no_some : (m : Minute) {A : Type 0} → Some m ≡ None → A
no_some m e = cc

-- no minute has the key, so no call has it
pub none_found : (i : Item) (cs : History) → earlier cs i.call ≡ None → list_any (is_same_item i) cs ≡ false
none_found i [] h = refl
none_found i (j ∷ cs) h =
    elim (has_same_key i.call j.call) as (λ b. (if b then Some (minute_of cs j) else earlier cs i.call) ≡ None → (b || list_any (is_same_item i) cs) ≡ false) [
      | true ↦ λ e. no_some (minute_of cs j) e
      | false ↦ λ e. none_found i cs e
    ] h

pub keys_stand_once : KeysStandOnce
keys_stand_once [] h = refl
keys_stand_once (i ∷ cs) h =
    let here = newest cs i h in
    apart-more is_same_item i cs (none_found i cs here.new.fresh) (keys_stand_once cs here.before)

-- the rows of the minutes have the keys of the calls

any_key : (cs old : History) (i : Item) → list_any (is_call_key (minute_of old i)) (minutes cs) ≡ list_any (is_same_item i) cs
any_key [] old i = refl
any_key (j ∷ cs) old i = ap (λ b. has_same_key i.call j.call || b) (any_key cs old i)

pub key_rows : (cs : History) → are_apart is_same_item cs ≡ true → are_apart is_call_key (minutes cs) ≡ true
key_rows [] h = refl
key_rows (i ∷ cs) h =
    let both : (not (list_any (is_same_item i) cs) ≡ true) × (are_apart is_same_item cs ≡ true) = and_parts (not (list_any (is_same_item i) cs)) (are_apart is_same_item cs) h in
    rw (any_key cs cs i, both.0) (key_rows cs both.1)

-- where the newest call has another key, the ones before it hold the key or none does
pub earlier_rest : (calls : History) (old : Item) (older : History) (c : Call) → calls ≡ old ∷ older → has_same_key c old.call ≡ false → earlier older c ≡ earlier calls c
earlier_rest calls old older c is other =
    sym (ap (λ l. earlier l c) is ∙ other_key (has_same_key c old.call) other)
  where
    other_key : (b : Bool) → b ≡ false → (if b then Some (minute_of older old) else earlier older c) ≡ earlier older c
    other_key b h = rw h refl
