mod WordLemmas
mod MadeLemmas
mod RefusalLemmas
mod EndLemmas
mod ReportLemmas
