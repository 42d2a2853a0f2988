-- Words read back.
use Rattle.std.proofs.Common.{◌≡◌, ℕ, cond, true, List, refl}
use Rattle.std.specs.Prelude.{codes}
use Rattle.std.specs.Str.{bytes_eq}
use Rattle.desk_types.specs.Words.{kind_text, role_text, state_text, vote_text}
use Rattle.desk_types.specs.declared.kind.ListedKind.{ListedKind}
use Rattle.desk_types.specs.declared.kind.ListedKind.TheVariants.{Digest, Certificate}
use Rattle.desk_types.specs.declared.role.Role.{Role}
use Rattle.desk_types.specs.declared.role.Role.TheVariants.{Submitter, Reviewer, Officer, Signer}
use Rattle.desk_types.specs.declared.state.State.{State}
use Rattle.desk_types.specs.declared.state.State.TheVariants.{Open, Approved, Rejected, Withdrawn as Left, Signed}
use Rattle.desk_types.specs.declared.vote.Vote.{Vote}
use Rattle.desk_types.specs.declared.vote.Vote.TheVariants.{Yes, No}
use Rattle.desk_types.proofs.FieldLemmas.{is_free}

abbrev pub role_in : List ℕ → Role
role_in text = cond (bytes_eq text (codes "submitter")) Submitter (cond (bytes_eq text (codes "reviewer")) Reviewer (cond (bytes_eq text (codes "officer")) Officer Signer))

pub role_read : (role : Role) → role_in (role_text role) ≡ role
role_read Submitter = refl
role_read Reviewer = refl
role_read Officer = refl
role_read Signer = refl

pub role_free : (role : Role) → is_free 32 (role_text role) ≡ true
role_free Submitter = refl
role_free Reviewer = refl
role_free Officer = refl
role_free Signer = refl

abbrev pub vote_in : List ℕ → Vote
vote_in text = cond (bytes_eq text (codes "yes")) Yes No

pub vote_read : (vote : Vote) → vote_in (vote_text vote) ≡ vote
vote_read Yes = refl
vote_read No = refl

pub vote_free : (vote : Vote) → is_free 32 (vote_text vote) ≡ true
vote_free Yes = refl
vote_free No = refl

abbrev pub kind_in : List ℕ → ListedKind
kind_in text = cond (bytes_eq text (codes "digest")) Digest Certificate

pub kind_read : (kind : ListedKind) → kind_in (kind_text kind) ≡ kind
kind_read Digest = refl
kind_read Certificate = refl

pub kind_free : (kind : ListedKind) → is_free 32 (kind_text kind) ≡ true
kind_free Digest = refl
kind_free Certificate = refl

abbrev pub state_in : List ℕ → State
state_in text =
    cond (bytes_eq text (codes "open")) Open (cond (bytes_eq text (codes "approved")) Approved
    (cond (bytes_eq text (codes "rejected")) Rejected (cond (bytes_eq text (codes "withdrawn")) Left Signed)))

pub state_read : (state : State) → state_in (state_text state) ≡ state
state_read Open = refl
state_read Approved = refl
state_read Rejected = refl
state_read Left = refl
state_read Signed = refl
