-- What holds of what the words ask of a database.
use Rattle.std.proofs.Common.{◌≡◌, Bool, true, false, List, [], ℕ, Option, None, Some, refl, sym, ◌∙◌, ap, subst}
use Rattle.std.specs.Prelude.{option_and_then, if◌then◌else◌}
use Rattle.base_notes.specs.declared.action.Action.{Action}
use Rattle.base_notes.specs.declared.action.Action.TheVariants.{Show, Get, Set, Delete, Consistent, Repack, Batch, Exercise}
use Rattle.base_notes.specs.declared.action.Backend.{Backend}
use Rattle.base_notes.specs.declared.action.Backend.TheVariants.{Flat, Twoskip}
use Rattle.db_core.specs.Sessions.{DbLaws}
use Rattle.db_repack.specs.Repacking.{RepackKind, RepacksOnce}
use Rattle.db_tool.specs.Tasks.{given}
use Rattle.flat_db.specs.Repacking.{flat_repack}
use Rattle.flat_db.proofs.KindLaws.{flat_laws}
use Rattle.flat_db.proofs.RepackingLemmas.{flat_repacks_once}
use Rattle.skip_kind.proofs.KindLaws.{skip_laws}
use Rattle.twoskip.specs.Repacking.{skip_repack}
use Rattle.twoskip.proofs.RepackingLemmas.{skip_repacks_once}
use Rattle.tool_words.specs.JobOf.{job_of}
use Rattle.tool_words.specs.declared.jobs.Job.{Job}
use Rattle.tool_words.specs.declared.jobs.Job.TheVariants.{Dbtool}
use Rattle.cyr_top.specs.Asked.{Asked, IfRepack, IfUnasked, IfUnread, Inputs, OnDatabase, OnOneDatabase, OnScript, UnlessRepack, asking, built_job_of, if_built, is_built, is_done, is_ready, is_repack, kind_of, reads_script, repack_of}
use Rattle.cyr_top.specs.Repacking.{AskedRepack, OnRepack, repacking}

pub laws_of : (backend : Backend) → DbLaws (kind_of backend)
laws_of Flat = flat_laws
laws_of Twoskip = skip_laws

-- one file alone may take the place of another
pub once_of : (backend : Backend) → RepacksOnce (repack_of backend)
once_of Flat = flat_repacks_once
once_of Twoskip = skip_repacks_once

-- what follows for each script follows for an action, and holds of it
pub on_script : (a : Action) (left : Option (List ℕ)) (P Q : List ℕ → Type 0) → ((script : List ℕ) → P script → Q script) → OnScript a left P → OnScript a left Q
on_script (Show prefix) left P Q follows met = follows [] met
on_script (Get key) left P Q follows met = follows [] met
on_script (Set key value) left P Q follows met = follows [] met
on_script (Delete key) left P Q follows met = follows [] met
on_script Consistent left P Q follows met = follows [] met
on_script Repack left P Q follows met = follows [] met
on_script Batch left P Q follows met = λ script shown. follows script (met script shown)
on_script (Exercise rounds) left P Q follows met = follows [] met

each_script : (a : Action) (left : Option (List ℕ)) (P : List ℕ → Type 0) → ((script : List ℕ) → P script) → OnScript a left P
each_script a left P all = by a
  where
    by : (a : Action) → OnScript a left P
    by (Show prefix) = all []
    by (Get key) = all []
    by (Set key value) = all []
    by (Delete key) = all []
    by Consistent = all []
    by Repack = all []
    by Batch = λ script shown. all script
    by (Exercise rounds) = all []

-- an action that is no script reads none
pub reads_none : (a : Action) (left : Option (List ℕ)) (P : List ℕ → Type 0) → is_done a ≡ true → P [] → OnScript a left P
reads_none (Show prefix) left P done met = met
reads_none (Get key) left P done met = met
reads_none (Set key value) left P done met = met
reads_none (Delete key) left P done met = met
reads_none Consistent left P done met = met
reads_none Repack left P done met = met
reads_none Batch left P done met = absurd (cc done)
reads_none (Exercise rounds) left P done met = met

-- what follows for each kind follows for the job
pub on_job : (g : Inputs) (P Q : Asked → Type 0) → ((asked : Asked) → DbLaws asked.kind → P asked → Q asked) → (job : Job) → OnDatabase g P job → OnDatabase g Q job
on_job g P Q follows (Dbtool make file backend action) met =
    on_script action g.left _ _ (λ script. follows (asking (kind_of backend) make action (given g.words script)) (laws_of backend)) met
on_job g P Q follows job met = tt

-- words that stand for no built job stand for one that is not built, or for none
pub not_built : (words : List (List ℕ)) (job : Job) → job_of words ≡ Some job → built_job_of words ≡ None → is_built job ≡ false
not_built words job is none = by (is_built job) (sym (ap (option_and_then if_built) is) ∙ none)
  where
    by : (b : Bool) → (if b then Some job else None) ≡ None → b ≡ false
    by true found = absurd (cc found)
    by false found = refl

-- words that stand for a job that is not built stand for none
pub no_job : (words : List (List ℕ)) (job : Job) → job_of words ≡ Some job → (is_built job ≡ true → ⊥) → built_job_of words ≡ None
no_job words job is unbuilt = ap (option_and_then if_built) is ∙ by (is_built job) refl
  where
    by : (b : Bool) → is_built job ≡ b → (if b then Some job else None) ≡ None
    by true so = absurd (unbuilt so)
    by false so = refl

-- what holds of each kind holds of the job
pub on_each : (g : Inputs) (P : Asked → Type 0) → ((asked : Asked) → P asked) → (job : Job) → OnDatabase g P job
on_each g P all (Dbtool make file backend action) = each_script action g.left _ (λ script. all (asking (kind_of backend) make action (given g.words script)))
on_each g P all job = tt

pub on_one : (P : Type 0) → P → (job : Job) → OnOneDatabase P job
on_one P met (Dbtool make file backend action) = met
on_one P met job = tt

pub if_unread : (P : Type 0) → P → (a : Action) → IfUnread P a
if_unread P met (Show prefix) = met
if_unread P met (Get key) = met
if_unread P met (Set key value) = met
if_unread P met (Delete key) = met
if_unread P met Consistent = met
if_unread P met Repack = met
if_unread P met Batch = tt
if_unread P met (Exercise rounds) = met

pub if_unasked : (P : Type 0) → P → (job : Job) → IfUnasked P job
if_unasked P met (Dbtool make file backend action) = if_unread P met action
if_unasked P met job = met

-- an action that reads a script is one, and one that reads none but is built is done at once
pub script_of : (a : Action) → reads_script a ≡ true → a ≡ Batch
script_of (Show prefix) is = absurd (cc is)
script_of (Get key) is = absurd (cc is)
script_of (Set key value) is = absurd (cc is)
script_of (Delete key) is = absurd (cc is)
script_of Consistent is = absurd (cc is)
script_of Repack is = absurd (cc is)
script_of Batch is = refl
script_of (Exercise rounds) is = absurd (cc is)

pub done_now : (a : Action) → is_ready a ≡ true → reads_script a ≡ false → is_repack a ≡ false → is_done a ≡ true
done_now a ready none no_repack =
    subst (λ (b : Bool). (if b then true else is_done a) ≡ true) no_repack (subst (λ (b : Bool). (if b then true else (if is_repack a then true else is_done a)) ≡ true) none ready)

pub repack_of_action : (a : Action) → is_repack a ≡ true → a ≡ Repack
repack_of_action (Show prefix) is = absurd (cc is)
repack_of_action (Get key) is = absurd (cc is)
repack_of_action (Set key value) is = absurd (cc is)
repack_of_action (Delete key) is = absurd (cc is)
repack_of_action Consistent is = absurd (cc is)
repack_of_action Repack is = refl
repack_of_action Batch is = absurd (cc is)
repack_of_action (Exercise rounds) is = absurd (cc is)

-- ---- repacks, and the other actions

pub unless : (a : Action) (P : Type 0) → P → UnlessRepack a P
unless (Show prefix) P met = met
unless (Get key) P met = met
unless (Set key value) P met = met
unless (Delete key) P met = met
unless Consistent P met = met
unless Repack P met = tt
unless Batch P met = met
unless (Exercise rounds) P met = met

pub unless_follows : (a : Action) (P Q : Type 0) → (P → Q) → UnlessRepack a P → UnlessRepack a Q
unless_follows (Show prefix) P Q follows met = follows met
unless_follows (Get key) P Q follows met = follows met
unless_follows (Set key value) P Q follows met = follows met
unless_follows (Delete key) P Q follows met = follows met
unless_follows Consistent P Q follows met = follows met
unless_follows Repack P Q follows met = tt
unless_follows Batch P Q follows met = follows met
unless_follows (Exercise rounds) P Q follows met = follows met

-- an action that is no repack owes nothing as one
pub no_repack : (a : Action) (P : Type 0) → is_repack a ≡ false → IfRepack a P
no_repack (Show prefix) P is = tt
no_repack (Get key) P is = tt
no_repack (Set key value) P is = tt
no_repack (Delete key) P is = tt
no_repack Consistent P is = tt
no_repack Repack P is = absurd (cc is)
no_repack Batch P is = tt
no_repack (Exercise rounds) P is = tt

if_repack : (a : Action) (P Q : Type 0) → (P → Q) → IfRepack a P → IfRepack a Q
if_repack (Show prefix) P Q follows met = tt
if_repack (Get key) P Q follows met = tt
if_repack (Set key value) P Q follows met = tt
if_repack (Delete key) P Q follows met = tt
if_repack Consistent P Q follows met = tt
if_repack Repack P Q follows met = follows met
if_repack Batch P Q follows met = tt
if_repack (Exercise rounds) P Q follows met = tt

each_repack : (a : Action) (P : Type 0) → P → IfRepack a P
each_repack (Show prefix) P met = tt
each_repack (Get key) P met = tt
each_repack (Set key value) P met = tt
each_repack (Delete key) P met = tt
each_repack Consistent P met = tt
each_repack Repack P met = met
each_repack Batch P met = tt
each_repack (Exercise rounds) P met = tt

-- what follows for each kind follows for the job, and what holds of each holds of it
pub on_repack : (P Q : AskedRepack → Type 0) → ((asked : AskedRepack) → P asked → Q asked) → (job : Job) → OnRepack P job → OnRepack Q job
on_repack P Q follows (Dbtool make file backend action) met = if_repack action _ _ (follows (repacking (repack_of backend) make)) met
on_repack P Q follows job met = tt

pub on_each_repack : (P : AskedRepack → Type 0) → ((backend : Backend) (make : Bool) → P (repacking (repack_of backend) make)) → (job : Job) → OnRepack P job
on_each_repack P all (Dbtool make file backend action) = each_repack action _ (all backend make)
on_each_repack P all job = tt

-- what follows for a repack and for each other action follows for the job
pub on_either : (g : Inputs) (P R : Asked → Type 0) (Q : AskedRepack → Type 0) → ((asked : Asked) → DbLaws asked.kind → P asked → R asked)
    → ((repack : RepackKind) (make : Bool) → DbLaws repack.kind → Q (repacking repack make) → R (asking repack.kind make Repack (given g.words [])))
    → (job : Job) → OnDatabase g (λ asked. UnlessRepack asked.action (P asked)) job → OnRepack Q job → OnDatabase g R job
on_either g P R Q follows repacks (Dbtool make file backend action) met owed = by action met owed
  where
    of_repack : (b : Backend) → Q (repacking (repack_of b) make) → R (asking (kind_of b) make Repack (given g.words []))
    of_repack Flat is = repacks flat_repack make flat_laws is
    of_repack Twoskip is = repacks skip_repack make skip_laws is

    by : (a : Action) → OnScript a g.left (λ script. UnlessRepack a (P (asking (kind_of backend) make a (given g.words script)))) → IfRepack a (Q (repacking (repack_of backend) make))
        → OnScript a g.left (λ script. R (asking (kind_of backend) make a (given g.words script)))
    by (Show prefix) met owed = follows _ (laws_of backend) met
    by (Get key) met owed = follows _ (laws_of backend) met
    by (Set key value) met owed = follows _ (laws_of backend) met
    by (Delete key) met owed = follows _ (laws_of backend) met
    by Consistent met owed = follows _ (laws_of backend) met
    by Repack met owed = of_repack backend owed
    by Batch met owed = λ script shown. follows _ (laws_of backend) (met script shown)
    by (Exercise rounds) met owed = follows _ (laws_of backend) met
on_either g P R Q follows repacks job met owed = tt

-- the built job of the words is their job, and is built
pub built_is : (words : List (List ℕ)) (job other : Job) → job_of words ≡ Some job → built_job_of words ≡ Some other → (job ≡ other) × (is_built job ≡ true)
built_is words job other is built = by (is_built job) refl (sym (ap (option_and_then if_built) is) ∙ built)
  where
    by : (b : Bool) → is_built job ≡ b → (if b then Some job else None) ≡ Some other → (job ≡ other) × (is_built job ≡ true)
    by true so found = (cc found, so)
    by false so found = absurd (cc found)
