use Rattle.std.proofs.Common.{◌≡◌, ℕ, List, length, None, nat_lt, false, rules, tests, sym, subst}
use Rattle.desk_inputs.specs.imports.FromLists.{tbs_of}
use Rattle.base.specs.Elements.{IsCertificate}
use Rattle.http_calls.proofs.BodyLemmas.{lists_none, no_tbs}
use Rattle.http_calls.proofs.bodies.listing.Goals as goal

pub returns-in-Err-2 : goal.returns-in-Err-2
returns-in-Err-2 c =
    let same : c.deref.result.now ≡ c.args.body = (let e = c.deref.ensures.value in let f = c.into_vec-bytes.ensures in search (rules, e, f)) in
    let only : (t : List ℕ) → IsCertificate c.args.body t → ⊥ = subst (λ b. (t : List ℕ) → IsCertificate b t → ⊥) same c.in-Err.ensures.only in
    let none : tbs_of c.args.body ≡ None = no_tbs c.args.body c.tbs_is_read.ensures.found only in
    let few : nat_lt 65536 (length c.args.body) ≡ false = (let e = c.if-len-gt-LONGEST_CERTIFICATE.false in let f = c.into_vec-bytes.ensures in let h = c.len.ensures in search (rules, tests, e, f, h)) in
    record { reads = sym (lists_none c.args.body few none) }
