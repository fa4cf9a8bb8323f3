-- The files of a job.
use Rattle.std.specs.Prelude.{ℕ, List, [], ◌++◌, Option, None, Some, codes}
use Rattle.tool_words.specs.declared.jobs.Job.{Job}
use Rattle.tool_words.specs.declared.jobs.Job.TheVariants.{Dbtool, Convert, Reconstruct, Recurse, Unexpunge, Purge, Check}

-- the index of a folder
abbrev pub index_path_of : List ℕ → List ℕ
index_path_of folder = folder ++ codes "/cyrus.index"

-- Each folder of a list has a main file of its own, so the job has none.
abbrev pub main_path_of : Job → List ℕ
main_path_of (Dbtool make file backend action) = file
main_path_of (Convert old old_kind new new_kind) = old
main_path_of (Reconstruct options folder) = index_path_of folder
main_path_of (Recurse options list prefix) = []
main_path_of (Unexpunge folder what) = index_path_of folder
main_path_of (Purge folder test) = index_path_of folder
main_path_of (Check folder) = index_path_of folder

abbrev pub second_path_of : Job → Option (List ℕ)
second_path_of (Convert old old_kind new new_kind) = Some new
second_path_of (Recurse options list prefix) = Some list
second_path_of job = None

abbrev pub folder_path_of : Job → Option (List ℕ)
folder_path_of (Reconstruct options folder) = Some folder
folder_path_of (Unexpunge folder what) = Some folder
folder_path_of (Purge folder test) = Some folder
folder_path_of (Check folder) = Some folder
folder_path_of job = None
