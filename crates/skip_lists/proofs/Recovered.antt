-- An image with tidy heads and linked levels, cut to the committed end and under a clean header.
use Rattle.std.proofs.Common.{◌≡◌, ℕ, ◌<◌, ◌≤◌, List, length, get_or, take, refl, inl, inr, arith}
use Rattle.skip_form.specs.Spelling.{header_bytes}
use Rattle.skip_spec.specs.Opens.{Contents, Reads, Tidy, IsTidyHead, with_dirty}
use Rattle.skip_spec.specs.Near.{IsImageOf}
use Rattle.skip_spec.specs.Live.{HasLog}
use Rattle.skip_spec.specs.Recovery.{recovered}
use Rattle.skip_spec.proofs.Kept.{reads_kept}
use Rattle.skip_spec.proofs.Lists.{all_of_each}
use Rattle.skip_spec.proofs.Lives.{live_few}
use Rattle.skip_spec.proofs.SameLog.{log_of_file, log_stays, tidy_stays, level_stays}
use Rattle.skip_lists.specs.Repair.{IsLinked}

-- an image's log is its base's
pub image_log : (base image : List ℕ) (says : Contents) → Reads base says → IsImageOf base says image → HasLog image says.starts says.chain says.header.current_size
image_log base image says r n = log_of_file image (record says { header = with_dirty says.header }) (reads_kept base image says r n)

module _ (base image file : List ℕ) (says : Contents) (r : Reads base says) (n : IsImageOf base says image) (inside : says.header.current_size ≤ length file) (same : (i : ℕ) → 64 ≤ i → i < says.header.current_size → get_or file i 0 ≡ get_or image i 0) where
  abbrev C : ℕ
  C = says.header.current_size

  log : HasLog image says.starts says.chain C
  log = image_log base image says r n

  -- what was linked stays linked under another header, and when the file is cut
  pub linked_stays : IsLinked says image → IsLinked says file
  linked_stays l = record {
    tidy = λ h m. tidy_stays image file says.starts says.chain C log inside same h m (l.tidy h m);
    levels = λ level lo le. level_stays image file says.starts says.chain C log inside same level le (l.levels level lo le);
  }

  pub linked_recovers : IsLinked says image → length file ≡ C → take 64 file ≡ header_bytes (recovered says).header → Reads file (recovered says) × Tidy file (recovered says)
  linked_recovers l ends is =
      let now = linked_stays l in
      let kept = log_stays image file says.starts says.chain C log inside same in (
        record {
          header = is;
          fields = record {
            version = r.fields.version;
            generation = r.fields.generation;
            num_records = omega (arith, live_few base C says.starts says.chain r.rows r.chain, r.fields.current_size);
            repack_size = r.fields.repack_size;
            current_size = r.fields.current_size;
            flags = omega (arith, r.fields.flags);
          };
          least = r.least;
          aligned = r.aligned;
          inside = inside;
          dummy = kept.dummy;
          rows = kept.rows;
          dummy_tail = kept.dummy_tail;
          chain = kept.chain;
        },
        record {
          clean = λ dirty. omega (arith, dirty);
          ends = ends;
          dummy = now.tidy 64 (inl refl);
          heads = all_of_each (λ v. IsTidyHead file C v) says.chain (λ v m. now.tidy v (inr m));
          count = refl;
          levels = now.levels;
        },
      )
