use Rattle.std.proofs.Common.{◌≡◌, ◌≢◌, ℕ, List, Err, false, rules, refl, ap, subst, ◌∙◌}
use Rattle.std.specs.Io.KnownBytes.{Appends}
use Rattle.base.specs.Output.{AppendsBeginning}
use Rattle.desk_history.specs.Calls.{History}
use Rattle.desk_history.specs.Formed.{IsHistory}
use Rattle.desk_history.specs.Level.{stamp}
use Rattle.desk_exports.specs.Exports.{exported}
use Rattle.desk_exports.specs.declared.export.Export.{Export}
use Rattle.desk_exports.specs.declared.export.Export.TheVariants as exports
use Rattle.store_exports.specs.Exporting.{Suits, exported_with}
use Rattle.store_exports.proofs.StampLemmas.{exported_by_stamp}
use Rattle.base.specs.declared.refusal.Refusal.TheVariants as refusals
use Rattle.store_desk.specs.declared.desk.Desk.{Desk}
use Rattle.store_desk.proofs.DeskLemmas.{reads_shown}
use Rattle.store_desk.proofs.desk.Desk.export.Goals as goal

-- with the owner and the stamp that the desk has, an export is that of the history
of_desk : (what : Export) (own owner : List ℕ) (now : ℕ) (cs : History) → own ≡ owner → now ≡ stamp cs → exported_with what own now cs ≡ exported what owner cs
of_desk what own owner now cs same is = exported_by_stamp what own now cs is ∙ ap (λ o. exported what o cs) same

-- a desk's history suits each export
suits : (what : Export) (cs : History) → IsHistory cs → Suits what cs
suits exports.Db cs h = tt
suits exports.Dbx cs h = tt
suits exports.Shim cs h = h.formed
suits exports.Level cs h = tt
suits exports.Minutes cs h = tt

pub returns-in-Ok-clause-same : goal.returns-in-Ok-clause-same
returns-in-Ok-clause-same g c clean other owner cs was =
    let old = c.args.self.now in
    let new : Desk _ = record c.args.self.now { conn = c.export.new.conn } in
    reads_shown g.S.Store old new (c.in-Ok.ensures.spares owner cs was.shows) was.usable c.in-Ok.ensures.same refl refl owner cs was

pub returns-in-Err-clause-same : goal.returns-in-Err-clause-same
returns-in-Err-clause-same g c clean other owner cs was =
    let old = c.args.self.now in
    let new : Desk _ = record c.args.self.now { conn = c.export.new.conn; needs_reopening = c.eq-self.result } in
    let differs : c.in-Err.failure ≢ refusals.Store = λ is. other (ap Err is) in
    let usable : c.eq-self.result ≡ false = (let e = c.eq-self.ensures in search (rules, e, differs)) in
    reads_shown g.S.Store old new (c.in-Err.ensures.spares owner cs was.shows) usable c.in-Err.ensures.same refl refl owner cs was

pub returns-in-Ok-clause-spares : goal.returns-in-Ok-clause-spares
returns-in-Ok-clause-spares g c owner cs was = c.in-Ok.ensures.spares owner cs was.shows

pub returns-in-Err-clause-spares : goal.returns-in-Err-clause-spares
returns-in-Err-clause-spares g c owner cs was = c.in-Err.ensures.spares owner cs was.shows

pub returns-in-Ok-clause-ok : goal.returns-in-Ok-clause-ok
returns-in-Ok-clause-ok g c clean owner cs was =
    let desk = c.args.self.now in
    subst (Appends (g.W.Write.contents c.args.writer.now) (g.W.Write.contents c.export.new.writer)) (of_desk c.args.what desk.owner owner desk.remembered.stamp cs was.own was.remembered.stamp)
    (c.in-Ok.ensures.ok clean owner cs (suits c.args.what cs was.history) was.shows)

pub returns-in-Err-clause-beginning : goal.returns-in-Err-clause-beginning
returns-in-Err-clause-beginning g c clean owner cs was =
    let desk = c.args.self.now in
    subst (AppendsBeginning (g.W.Write.contents c.args.writer.now) (g.W.Write.contents c.export.new.writer)) (of_desk c.args.what desk.owner owner desk.remembered.stamp cs was.own was.remembered.stamp)
    (c.in-Err.ensures.beginning clean owner cs (suits c.args.what cs was.history) was.shows)
