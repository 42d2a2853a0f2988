mod EndLemmas
mod RunLemmas
