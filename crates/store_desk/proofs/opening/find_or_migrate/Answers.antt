use Rattle.std.proofs.Common.{◌≡◌, ◌≢◌, inl, inr, pos, rules, subst, sym, arith, ◌∙◌, false, IsTrue}
use Rattle.sqlite.specs.Held.{state}
use Rattle.sqlite.specs.State.{HasCleanDisk}
use Rattle.store_sql.proofs.CommitLemmas.{and_then, leaves_more}
use Rattle.store_schema.specs.Tables.{desk_layout, first_layout}
use Rattle.store_schema.specs.rows.Histories.{first_rows_of, rows_of}
use Rattle.sqlite.specs.Schema.{Schema}
use Rattle.store_schema.specs.Names.{takes_an_added_name}
use Rattle.store_desk.specs.Steps.{AreShownAs, Brings, ReadsVersion}
use Rattle.store_desk.proofs.OpeningLemmas.{own_of, read_as, version_of}
use Rattle.store_desk.proofs.OwnerLemmas.{asked_of, never_owner}
use Rattle.store_desk.proofs.ReopeningLemmas.{never_version}
use Rattle.store_desk.proofs.VersionLemmas.{brought_left, first_version, second_version}
use Rattle.store_desk.proofs.opening.find_or_migrate.Goals as goal

-- ---- no version was read

pub returns-in-Err-clause-second : goal.returns-in-Err-clause-second
returns-in-Err-clause-second g c clean owner cs shows = c.in-Err.ensures.looks.shown clean desk_layout (rows_of owner cs) shows

pub returns-in-Err-clause-other : goal.returns-in-Err-clause-other
returns-in-Err-clause-other g c clean is = absurd (never_version c.in-Err.refusal is c.in-Err.ensures.named)

pub returns-in-Err-clause-unread : goal.returns-in-Err-clause-unread
returns-in-Err-clause-unread g c clean is =
    let told = (c.in-Err.ensures.told clean).told in
    (told.is_open is, inl (told.unread is))

pub returns-in-Err-clause-looked : goal.returns-in-Err-clause-looked
returns-in-Err-clause-looked g c clean (inl is) = (c.in-Err.ensures.told clean).told.is_open is
returns-in-Err-clause-looked g c clean (inr is) = absurd (never_version c.in-Err.refusal is c.in-Err.ensures.named)

pub returns-in-Err-clause-survives : goal.returns-in-Err-clause-survives
returns-in-Err-clause-survives g c =
    let old = state g.S.Store c.args.conn.now in
    leaves_more (Brings old) old (state g.S.Store c.read_table.new.conn) c.in-Err.ensures.looks.spares

pub returns-in-Err-clause-another : goal.returns-in-Err-clause-another
returns-in-Err-clause-another g c clean is = absurd (never_owner c.in-Err.refusal is c.in-Err.ensures.named)

pub returns-in-Err-clause-named : goal.returns-in-Err-clause-named
returns-in-Err-clause-named g c = inr (inr c.in-Err.ensures.named)

-- ---- another owner

pub returns-then-is_another-clause-second : goal.returns-then-is_another-clause-second
returns-then-is_another-clause-second g c clean owner cs shows = c.in-Ok.ensures.looks.shown clean desk_layout (rows_of owner cs) shows

pub returns-then-is_another-clause-another : goal.returns-then-is_another-clause-another
returns-then-is_another-clause-another g c clean is =
    let told = c.in-Ok.ensures.told clean in
    (told.told.is_open, told.named, (c.in-Ok.own, told.told.read, c.is_another.ensures.another c.if-is_another.true))

pub returns-then-is_another-clause-named : goal.returns-then-is_another-clause-named
returns-then-is_another-clause-named g c = inl (asked_of c.args.expected c.in-Ok.own.owner (c.is_another.ensures.another c.if-is_another.true))

pub returns-then-is_another-clause-looked : goal.returns-then-is_another-clause-looked
returns-then-is_another-clause-looked g c clean is = (c.in-Ok.ensures.told clean).told.is_open

pub returns-then-is_another-clause-survives : goal.returns-then-is_another-clause-survives
returns-then-is_another-clause-survives g c =
    let old = state g.S.Store c.args.conn.now in
    leaves_more (Brings old) old (state g.S.Store c.read_table.new.conn) c.in-Ok.ensures.looks.spares

-- ---- version 2

pub returns-then-is_version-clause-second : goal.returns-then-is_version-clause-second
returns-then-is_version-clause-second g c clean owner cs shows = c.in-Ok.ensures.looks.shown clean desk_layout (rows_of owner cs) shows

pub returns-then-is_version-clause-first : goal.returns-then-is_version-clause-first
returns-then-is_version-clause-first g c clean owner cs early =
    let two : c.in-Ok.own.version ≡ pos 2 = search rules in
    let before : HasCleanDisk (state g.S.Store c.args.conn.now) = omega (arith, c.in-Ok.ensures.looks.spares.clean, clean) in
    let one = first_version (state g.S.Store c.args.conn.now) owner cs c.in-Ok.own.version (read_as g.S.Store c.args.conn.now c.in-Ok.own before (c.in-Ok.ensures.told clean)) early in
    absurd (let both = sym one ∙ two in cc)

pub returns-then-is_version-clause-read : goal.returns-then-is_version-clause-read
returns-then-is_version-clause-read g c clean =
    let two : c.in-Ok.own.version ≡ pos 2 = search rules in
    let told = c.in-Ok.ensures.told clean in
    (told.told.is_open, told.named, inl (subst (ReadsVersion g.S.Store c.args.conn.now) two (version_of g.S.Store c.args.conn.now c.in-Ok.own told.told.read)))

pub returns-then-is_version-clause-own : goal.returns-then-is_version-clause-own
returns-then-is_version-clause-own g c clean =
    let told = c.in-Ok.ensures.told clean in
    let before : HasCleanDisk (state g.S.Store c.args.conn.now) = omega (arith, c.in-Ok.ensures.looks.spares.clean, clean) in
    own_of g.S.Store c.args.conn.now before told.told.is_open c.in-Ok.own told.told.read

pub returns-then-is_version-clause-survives : goal.returns-then-is_version-clause-survives
returns-then-is_version-clause-survives g c =
    let old = state g.S.Store c.args.conn.now in
    leaves_more (Brings old) old (state g.S.Store c.read_table.new.conn) c.in-Ok.ensures.looks.spares

-- ---- another version

pub returns-then-not-is_version-clause-second : goal.returns-then-not-is_version-clause-second
returns-then-not-is_version-clause-second g c clean owner cs shows = c.in-Ok.ensures.looks.shown clean desk_layout (rows_of owner cs) shows

pub returns-then-not-is_version-clause-other : goal.returns-then-not-is_version-clause-other
returns-then-not-is_version-clause-other g c clean is =
    let one : c.in-Ok.own.version ≢ pos 1 = search rules in
    let two : c.in-Ok.own.version ≢ pos 2 = search rules in
    let told = c.in-Ok.ensures.told clean in
    (told.told.is_open, told.named, (c.in-Ok.own.version, one, two, version_of g.S.Store c.args.conn.now c.in-Ok.own told.told.read))

pub returns-then-not-is_version-clause-looked : goal.returns-then-not-is_version-clause-looked
returns-then-not-is_version-clause-looked g c clean is = (c.in-Ok.ensures.told clean).told.is_open

pub returns-then-not-is_version-clause-survives : goal.returns-then-not-is_version-clause-survives
returns-then-not-is_version-clause-survives g c =
    let old = state g.S.Store c.args.conn.now in
    leaves_more (Brings old) old (state g.S.Store c.read_table.new.conn) c.in-Ok.ensures.looks.spares

-- ---- version 1, migrated

pub returns-in-Ok-migrate-clause-second : goal.returns-in-Ok-migrate-clause-second
returns-in-Ok-migrate-clause-second g c clean owner cs shows =
    let one : c.in-Ok.own.version ≡ pos 1 = search rules in
    let late : HasCleanDisk (state g.S.Store c.read_table.new.conn) = omega (arith, c.in-Ok-migrate.ensures.survives.clean, clean) in
    let before : HasCleanDisk (state g.S.Store c.args.conn.now) = omega (arith, c.in-Ok.ensures.looks.spares.clean, late) in
    let two = second_version (state g.S.Store c.args.conn.now) owner cs c.in-Ok.own.version (read_as g.S.Store c.args.conn.now c.in-Ok.own before (c.in-Ok.ensures.told late)) shows in
    absurd (let both = sym one ∙ two in cc)

pub returns-in-Ok-migrate-clause-first : goal.returns-in-Ok-migrate-clause-first
returns-in-Ok-migrate-clause-first g c clean owner cs early =
    let late : HasCleanDisk (state g.S.Store c.read_table.new.conn) = omega (arith, c.in-Ok-migrate.ensures.survives.clean, clean) in
    let there = c.in-Ok.ensures.looks.shown late first_layout (first_rows_of owner cs) early.1 in
    let did = c.in-Ok-migrate.ensures.ok clean in
    (did.0, did.1 owner cs (early.0, there))

pub returns-in-Ok-migrate-clause-read : goal.returns-in-Ok-migrate-clause-read
returns-in-Ok-migrate-clause-read g c clean =
    let one : c.in-Ok.own.version ≡ pos 1 = search rules in
    let mid = state g.S.Store c.read_table.new.conn in
    let late : HasCleanDisk mid = omega (arith, c.in-Ok-migrate.ensures.survives.clean, clean) in
    let told = c.in-Ok.ensures.told late in (
      told.told.is_open,
      told.named,
      inr (
        subst (ReadsVersion g.S.Store c.args.conn.now) one (version_of g.S.Store c.args.conn.now c.in-Ok.own told.told.read),
        subst (λ (x : Schema). takes_an_added_name x ≡ false) (c.in-Ok.ensures.looks.schema late (c.in-Ok-migrate.ensures.was_open clean)) c.in-Ok-migrate.ensures.free,
      ),
    )

pub returns-in-Ok-migrate-clause-own : goal.returns-in-Ok-migrate-clause-own
returns-in-Ok-migrate-clause-own g c clean =
    let late : HasCleanDisk (state g.S.Store c.read_table.new.conn) = omega (arith, c.in-Ok-migrate.ensures.survives.clean, clean) in
    let told = c.in-Ok.ensures.told late in
    let before : HasCleanDisk (state g.S.Store c.args.conn.now) = omega (arith, c.in-Ok.ensures.looks.spares.clean, late) in
    own_of g.S.Store c.args.conn.now before told.told.is_open c.in-Ok.own told.told.read

pub returns-in-Ok-migrate-clause-open : goal.returns-in-Ok-migrate-clause-open
returns-in-Ok-migrate-clause-open g c clean =
    let late : HasCleanDisk (state g.S.Store c.read_table.new.conn) = omega (arith, c.in-Ok-migrate.ensures.survives.clean, clean) in
    (c.in-Ok.ensures.told late).told.is_open

pub returns-in-Ok-migrate-clause-survives : goal.returns-in-Ok-migrate-clause-survives
returns-in-Ok-migrate-clause-survives g c =
    let one : c.in-Ok.own.version ≡ pos 1 = search rules in
    let old = state g.S.Store c.args.conn.now in
    brought_left old (state g.S.Store c.read_table.new.conn) (state g.S.Store c.migrate.new.conn) c.in-Ok.ensures.looks.spares c.in-Ok-migrate.ensures.survives
    (λ late. subst (AreShownAs old) one (read_as g.S.Store c.args.conn.now c.in-Ok.own (omega (arith, c.in-Ok.ensures.looks.spares.clean, late)) (c.in-Ok.ensures.told late))) c.in-Ok.ensures.looks.shown

-- ---- version 1, refused

pub returns-in-Err-migrate-clause-second : goal.returns-in-Err-migrate-clause-second
returns-in-Err-migrate-clause-second g c clean owner cs shows =
    let one : c.in-Ok.own.version ≡ pos 1 = search rules in
    let late : HasCleanDisk (state g.S.Store c.read_table.new.conn) = omega (arith, c.in-Err-migrate.ensures.survives.clean, clean) in
    let before : HasCleanDisk (state g.S.Store c.args.conn.now) = omega (arith, c.in-Ok.ensures.looks.spares.clean, late) in
    let two = second_version (state g.S.Store c.args.conn.now) owner cs c.in-Ok.own.version (read_as g.S.Store c.args.conn.now c.in-Ok.own before (c.in-Ok.ensures.told late)) shows in
    absurd (let both = sym one ∙ two in cc)

pub returns-in-Err-migrate-clause-other : goal.returns-in-Err-migrate-clause-other
returns-in-Err-migrate-clause-other g c clean is = absurd (never_version c.in-Err-migrate.refusal is c.in-Err-migrate.ensures.named)

pub returns-in-Err-migrate-clause-another : goal.returns-in-Err-migrate-clause-another
returns-in-Err-migrate-clause-another g c clean is = absurd (never_owner c.in-Err-migrate.refusal is c.in-Err-migrate.ensures.named)

pub returns-in-Err-migrate-clause-named : goal.returns-in-Err-migrate-clause-named
returns-in-Err-migrate-clause-named g c = inr (inr c.in-Err-migrate.ensures.named)

pub returns-in-Err-migrate-clause-unread : goal.returns-in-Err-migrate-clause-unread
returns-in-Err-migrate-clause-unread g c clean is =
    let one : c.in-Ok.own.version ≡ pos 1 = search rules in
    let mid = state g.S.Store c.read_table.new.conn in
    let late : HasCleanDisk mid = omega (arith, c.in-Err-migrate.ensures.survives.clean, clean) in
    let taken = c.in-Err-migrate.ensures.taken clean is in
    let told = c.in-Ok.ensures.told late in (
      told.told.is_open,
      inr (
        subst (ReadsVersion g.S.Store c.args.conn.now) one (version_of g.S.Store c.args.conn.now c.in-Ok.own told.told.read),
        subst (λ (x : Schema). IsTrue (takes_an_added_name x)) (c.in-Ok.ensures.looks.schema late taken.0) taken.1,
      ),
    )

pub returns-in-Err-migrate-clause-looked : goal.returns-in-Err-migrate-clause-looked
returns-in-Err-migrate-clause-looked g c clean is =
    let late : HasCleanDisk (state g.S.Store c.read_table.new.conn) = omega (arith, c.in-Err-migrate.ensures.survives.clean, clean) in
    (c.in-Ok.ensures.told late).told.is_open

pub returns-in-Err-migrate-clause-kept : goal.returns-in-Err-migrate-clause-kept
returns-in-Err-migrate-clause-kept g c clean other schema contents shows =
    let late : HasCleanDisk (state g.S.Store c.read_table.new.conn) = omega (arith, c.in-Err-migrate.ensures.survives.clean, clean) in
    c.in-Err-migrate.ensures.kept clean other schema contents (c.in-Ok.ensures.looks.shown late schema contents shows)

pub returns-in-Err-migrate-clause-unwritten : goal.returns-in-Err-migrate-clause-unwritten
returns-in-Err-migrate-clause-unwritten g c other =
    and_then (λ _. ⊥) (state g.S.Store c.args.conn.now) (state g.S.Store c.read_table.new.conn) (state g.S.Store c.migrate.new.conn) c.in-Ok.ensures.looks.spares (c.in-Err-migrate.ensures.unwritten other)

pub returns-in-Err-migrate-clause-survives : goal.returns-in-Err-migrate-clause-survives
returns-in-Err-migrate-clause-survives g c =
    let one : c.in-Ok.own.version ≡ pos 1 = search rules in
    let old = state g.S.Store c.args.conn.now in
    brought_left old (state g.S.Store c.read_table.new.conn) (state g.S.Store c.migrate.new.conn) c.in-Ok.ensures.looks.spares c.in-Err-migrate.ensures.survives
    (λ late. subst (AreShownAs old) one (read_as g.S.Store c.args.conn.now c.in-Ok.own (omega (arith, c.in-Ok.ensures.looks.spares.clean, late)) (c.in-Ok.ensures.told late))) c.in-Ok.ensures.looks.shown
