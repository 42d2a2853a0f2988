-- The steps of a reader of CSV from record to record.
use Rattle.std.proofs.Common.{◌≡◌, ℕ, zero, suc, ◌+◌, ◌<◌, ◌≤◌, cond, eqb, Bool, true, false, List, [], ◌∷◌, ◌++◌, append-nil, length, Option, Some, None, Ok, Err, refl, sym, ap, subst, ◌∙◌, inl, arith}
use Rattle.std.specs.Result.{IsOkAnd}
use Rattle.csv.specs.Machine.{Read, after_end, ends_at_end, ends_with, field_after, fields_after, in_field, is_end, next_record, start_field, start_record, step}
use Rattle.csv.specs.Reading.{ReadRecord, Reached, Ready, default_config, records_from}
use Rattle.csv.specs.declared.parser.Action.{Action}
use Rattle.csv.specs.declared.parser.Action.TheVariants as act
use Rattle.csv.specs.declared.parser.State.{State}
use Rattle.csv.specs.declared.parser.State.TheVariants as st
use Rattle.csv.specs.declared.parser.Terminator.TheVariants as term
use Rattle.csv.specs.declared.reader.Reader.{Reader}
use Rattle.csv.specs.declared.reader.Trim.TheVariants as trim
use Rattle.csv.proofs.ReadFacts.{rows-end, rows-more}
use Rattle.base.specs.Lines.{named_at}
use Rattle.base.proofs.NamedLemmas.{put_before, put_before-more, put_before-nil}
use Rattle.desk_types.specs.declared.command.Command.{Command}
use Rattle.desk_inputs.specs.imports.FromCsv.{IsCsvImport, Record, is_header, items_from, items_in, record_item, records_of}
use Rattle.desk_inputs.specs.imports.Gathering.{Gathering, Gathers}
use Rattle.desk_inputs.specs.imports.Items.{IsCommandOf, IsTooMany}
use Rattle.desk_inputs.specs.imports.Records.{GathersRecords, Leaves, PassesHeader, Reads}
use Rattle.desk_inputs.specs.declared.imports.csv_rows.Next.TheVariants as next
use Rattle.desk_inputs.specs.declared.imports.item.Item.{Item}

-- where the action ends a record, the end of the text would end none after it
abbrev Ends : State × Action → Type 0
Ends q = is_end q.1 ≡ true → ends_at_end q.0 ≡ false

either : (b : Bool) (x y : State × Action) → Ends x → Ends y → Ends (cond b x y)
either true x y p q = p
either false x y p q = q

line_end : (b : Bool) → ends_at_end (cond b st.AfterCr st.StartRecord) ≡ false
line_end true = refl
line_end false = refl

ended_in_field : (c : ℕ) → Ends (in_field default_config c)
ended_in_field c =
    either (eqb c 44) (st.StartField, act.EndField) (cond (ends_with term.CRLF c) (after_end term.CRLF c, act.EndRecord) (st.InField, act.Copy)) (λ h. cc)
    (either (ends_with term.CRLF c) (after_end term.CRLF c, act.EndRecord) (st.InField, act.Copy) (λ h. line_end (eqb c 13)) (λ h. cc))

ended_at_field : (c : ℕ) → Ends (start_field default_config c)
ended_at_field c = either (eqb c 34) (st.InQuoted, act.Skip) (in_field default_config c) (λ h. cc) (ended_in_field c)

ended_at_record : (c : ℕ) → Ends (start_record default_config c)
ended_at_record c = either (ends_with term.CRLF c) (st.StartRecord, act.Skip) (start_field default_config c) (λ h. cc) (ended_at_field c)

ended : (s : State) (c : ℕ) → Ends (step default_config s c)
ended st.StartRecord c = ended_at_record c
ended st.StartField c = ended_at_field c
ended st.InField c = ended_in_field c
ended st.InQuoted c = either (eqb c 34) (st.AfterQuote, act.Skip) (st.InQuoted, act.Copy) (λ h. cc) (λ h. cc)
ended st.InEscape c = λ h. cc
ended st.AfterQuote c = either (eqb c 34) (st.InQuoted, act.Copy) (in_field default_config c) (λ h. cc) (ended_in_field c)
ended st.InComment c = either (eqb c 10) (st.StartRecord, act.Skip) (st.InComment, act.Skip) (λ h. cc) (λ h. cc)
ended st.AfterCr c = either (eqb c 10) (st.StartRecord, act.Skip) (start_record default_config c) (λ h. cc) (ended_at_record c)

-- after a record the reader is between records, and no more bytes are left
pub record Goes (p : Read) (xs : List ℕ) : Type 0 where
  pub between : ends_at_end p.1 ≡ false
  pub left : length p.2 ≤ length xs

some_same : {A : Type 0} (x y : A) → Some x ≡ Some y → x ≡ y
some_same x y h = cc

last : (b : Bool) (f : List (List ℕ)) (p : Read) → cond b (Some (f, st.StartRecord, [])) None ≡ Some p → Goes p []
last true f p h = rw (← some_same (f, st.StartRecord, []) p h) (record { between = refl; left = omega arith })
last false f p h = absurd (cc)

next_goes : (s : State) (fields : List (List ℕ)) (field : List ℕ) (xs : List ℕ) (p : Read) → next_record default_config s fields field xs ≡ Some p → Goes p xs
unfolding next_record
next_goes s fields field [] p h = last (ends_at_end s) _ p h
next_goes s fields field (c ∷ rest) p h =
    by (is_end (step default_config s c).1) refl h
    (next_goes (step default_config s c).0 (fields_after (step default_config s c).1 fields field) (field_after (step default_config s c).1 c field) rest p)
  where
    by : (b : Bool) → is_end (step default_config s c).1 ≡ b
        → cond b (Some (fields_after (step default_config s c).1 fields field, (step default_config s c).0, rest)) (next_record default_config (step default_config s c).0 (fields_after (step default_config s c).1 fields field) (field_after (step default_config s c).1 c field) rest) ≡ Some p
        → (next_record default_config (step default_config s c).0 (fields_after (step default_config s c).1 fields field) (field_after (step default_config s c).1 c field) rest ≡ Some p → Goes p rest)
        → Goes p (c ∷ rest)
    by true e same more = rw (← some_same _ p same) (record { between = ended s c e; left = omega arith })
    by false e same more = let goes = more same in let left = goes.left in record { between = goes.between; left = omega (arith, left) }

-- a record that begins between records takes some byte
next_shorter : (s : State) (xs : List ℕ) (p : Read) → ends_at_end s ≡ false → next_record default_config s [] [] xs ≡ Some p → length p.2 < length xs
unfolding next_record
next_shorter s [] p between h = let none = rw between at h in absurd (cc)
next_shorter s (c ∷ rest) p between h = by (is_end (step default_config s c).1) refl h
  where
    by : (b : Bool) → is_end (step default_config s c).1 ≡ b
        → cond b (Some (fields_after (step default_config s c).1 [] [], (step default_config s c).0, rest)) (next_record default_config (step default_config s c).0 (fields_after (step default_config s c).1 [] []) (field_after (step default_config s c).1 c []) rest) ≡ Some p
        → length p.2 < length (c ∷ rest)
    by true e same = rw (← some_same _ p same) (omega arith)
    by false e same = let left = (next_goes (step default_config s c).0 _ _ rest p same).left in omega (arith, left)

-- the record at the front, and those that follow it
pub record Front (p : Read) (rows : List Record) : Type 0 where
  pub most : ℕ
  pub enough : length p.2 < most
  pub are : rows ≡ p.0 ∷ records_from default_config most p.1 p.2

front : (most : ℕ) (s : State) (text : List ℕ) (p : Read) → length text < most → ends_at_end s ≡ false → next_record default_config s [] [] text ≡ Some p → Front p (records_from default_config most s text)
unfolding records_from
front zero s text p enough between e = absurd (omega (arith, enough))
front (suc most) s text p enough between e =
    let left = next_shorter s text p between e in
    record { most = most; enough = omega (arith, left, enough); are = rw e refl }

no_front : (most : ℕ) (s : State) (text : List ℕ) → next_record default_config s [] [] text ≡ None → records_from default_config most s text ≡ []
unfolding records_from
no_front zero s text e = refl
no_front (suc most) s text e = rw e refl

-- a read that found a record
reads : {R : Type 0} (rem : R → Option (List ℕ)) (old new : Reader R) (f : Record) (rows : List Record) → Leaves rem old rows → new.first ≡ true → ReadRecord rem old new true f → Reads rem next.Record f rows new
unfolding Reached
reads rem old new f rows h first read =
    let m = rows-more rem old new f default_config old.state h.text h.text [] h.config h.source (refl, refl) read in
    let p = m.2.0 in
    let is = m.2.1 in
    let fields = m.2.2 in
    let ends = m.2.3 in
    let goes = next_goes old.state [] [] h.text p is in
    let rest = front h.most old.state h.text p h.enough h.between is in (
      records_from default_config rest.most p.1 p.2,
      h.are ∙ rest.are ∙ ap (λ x. x ∷ records_from default_config rest.most p.1 p.2) (sym fields),
      record {
        trim = read.3 ∙ h.trim;
        ready = inl first;
        config = read.2 ∙ h.config;
        between = ap ends_at_end (sym ends.0) ∙ goes.between;
        text = p.2;
        source = m.1 ∙ ap Some (sym ends.1);
        most = rest.most;
        enough = rest.enough;
        are = ap (λ s. records_from default_config rest.most s p.2) ends.0;
      },
    )

-- the same by the clauses of the read
pub found_one : {R : Type 0} (rem : R → Option (List ℕ)) (old new : Reader R) (f : Record) → (old.trim ≡ trim.None → new.first ≡ true)
    → (old.trim ≡ trim.None → Ready old → ReadRecord rem old new true f) → (rows : List Record) → Leaves rem old rows → Reads rem next.Record f rows new
found_one rem old new f first read rows h = reads rem old new f rows h (first h.trim) (read h.trim h.ready)

pub found_none : {R : Type 0} (rem : R → Option (List ℕ)) (old new : Reader R) (f : Record) → (old.trim ≡ trim.None → Ready old → ReadRecord rem old new false f)
    → (rows : List Record) → Leaves rem old rows → rows ≡ []
found_none rem old new f read rows h = h.are ∙ no_front h.most old.state h.text (rows-end rem old new f default_config h.text h.config h.source (read h.trim h.ready))

-- of all records of a file, the entries so far, and the records that are left
pub record Reading {R : Type 0} (rem : R → Option (List ℕ)) (all : List Record) (number : ℕ) (reader : Reader R) (now : Gathering) : Type 0 where
  pub left : List Record
  pub done : List Item
  pub same : put_before done (items_from number left) ≡ items_in all
  pub leaves : Leaves rem reader left
  pub gathers : Gathers done now

pub Reading-begins : {R : Type 0} (rem : R → Option (List ℕ)) (all : List Record) (reader : Reader R) (now : Gathering) → PassesHeader rem all reader → Gathers [] now → Reading rem all 1 reader now
Reading-begins rem all reader now h gathers =
    record { left = h.rest; done = []; same = put_before-nil (items_from 1 h.rest) ∙ sym h.same; leaves = h.leaves; gathers = gathers }

pub Reading-next : {R : Type 0} (rem : R → Option (List ℕ)) (all : List Record) (n : ℕ) (old new : Reader R) (now after : Gathering) (f : Record) (i : Item) → Reading rem all n old now
    → ((rows : List Record) → Leaves rem old rows → Reads rem next.Record f rows new) → record_item f ≡ Some i
    → ((items : List Item) → Gathers items now → Gathers (items ++ i ∷ []) after) → Reading rem all (n + 1) new after
Reading-next rem all n old new now after f i h read is more =
    let r = read h.left h.leaves in record {
      left = r.0;
      done = h.done ++ i ∷ [];
      same = sym (put_before-more h.done i (items_from (n + 1) r.0)) ∙ sym (ap (λ x. put_before h.done (named_at n x (items_from (n + 1) r.0))) is) ∙ sym (ap (λ rows. put_before h.done (items_from n rows)) r.1) ∙ h.same;
      leaves = r.2;
      gathers = more h.done h.gathers;
    }

-- the first record that is no entry
pub Reading-wrong : {R : Type 0} (rem : R → Option (List ℕ)) (all : List Record) (n : ℕ) (old new : Reader R) (now : Gathering) (f : Record) → Reading rem all n old now
    → ((rows : List Record) → Leaves rem old rows → Reads rem next.Record f rows new) → record_item f ≡ None → items_in all ≡ Err n
Reading-wrong rem all n old new now f h read is =
    let r = read h.left h.leaves in
    sym h.same ∙ ap (λ rows. put_before h.done (items_from n rows)) r.1 ∙ ap (λ x. put_before h.done (named_at n x (items_from (n + 1) r.0))) is

-- so it is whatever records there were at first
pub Reading-wrong-all : {R : Type 0} (rem : R → Option (List ℕ)) (n : ℕ) (first old new : Reader R) (now : Gathering) (f : Record) → ((rows : List Record) → Leaves rem first rows → Reading rem rows n old now)
    → ((rows : List Record) → Leaves rem old rows → Reads rem next.Record f rows new) → record_item f ≡ None → (rows : List Record) → Leaves rem first rows → items_in rows ≡ Err n
Reading-wrong-all rem n first old new now f all read is rows h = Reading-wrong rem rows n old new now f (all rows h) read is

-- no record is left
pub Reading-ends : {R : Type 0} (rem : R → Option (List ℕ)) (all : List Record) (n : ℕ) (old : Reader R) (now : Gathering) → Reading rem all n old now
    → ((rows : List Record) → Leaves rem old rows → rows ≡ []) → GathersRecords all now
Reading-ends rem all n old now h read = record {
  items = h.done;
  read = sym h.same ∙ ap (λ rows. put_before h.done (items_from n rows)) (read h.left h.leaves) ∙ ap Ok (append-nil h.done);
  gathers = h.gathers;
}

-- no record at all, and a first one that is no header
pub no_header : {R : Type 0} (rem : R → Option (List ℕ)) (old : Reader R) → ((rows : List Record) → Leaves rem old rows → rows ≡ [])
    → (rows : List Record) → Leaves rem old rows → items_in rows ≡ Err 0
no_header rem old read rows h = ap items_in (read rows h)

pub wrong_header : {R : Type 0} (rem : R → Option (List ℕ)) (old new : Reader R) (f : Record) → ((rows : List Record) → Leaves rem old rows → Reads rem next.Record f rows new) → is_header f ≡ false
    → (rows : List Record) → Leaves rem old rows → items_in rows ≡ Err 0
wrong_header rem old new f read is rows h =
    let r = read rows h in ap items_in r.1 ∙ ap (λ b. cond b (items_from 1 r.0) (Err 0)) is

pub right_header : {R : Type 0} (rem : R → Option (List ℕ)) (old new : Reader R) (f : Record) → ((rows : List Record) → Leaves rem old rows → Reads rem next.Record f rows new) → is_header f ≡ true
    → (rows : List Record) → Leaves rem old rows → PassesHeader rem rows new
right_header rem old new f read is rows h =
    let r = read rows h in record { rest = r.0; same = ap items_in r.1 ∙ ap (λ b. cond b (items_from 1 r.0) (Err 0)) is; leaves = r.2 }

-- the gathered entries are the file's import
pub IsCsvImport-given : (text : List ℕ) (stamp : Option ℕ) (g : Gathering) (command : Command) → GathersRecords (records_of text) g
    → ((items : List Item) → Gathers items g → IsCommandOf stamp items command) → IsCsvImport text stamp command
IsCsvImport-given text stamp g command h is = record { items = h.items; read = h.read; is = is h.items h.gathers }

pub too_many : (rows : List Record) (g : Gathering) → GathersRecords rows g → ((items : List Item) → Gathers items g → IsTooMany items) → IsOkAnd (items_in rows) IsTooMany
too_many rows g h many = subst (λ r. IsOkAnd r IsTooMany) (sym h.read) (many h.items h.gathers)
